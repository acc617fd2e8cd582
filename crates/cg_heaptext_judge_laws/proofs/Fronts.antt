-- The first of some things that are met, and what stands before it.
use Rattle.std.proofs.Common.{◌≡◌, ◌⊎◌, inl, inr, List, [], ◌∷◌, ◌++◌, refl, sym, ap, ◌∙◌, subst, append_assoc, ⊎_elim}
use Rattle.cg_base.specs.declared.place.Place.{Place}
use Rattle.cg_heaptext_def.specs.HeapText.{FirstOf, Nowhere}
use Rattle.cg_heaptext_def.specs.Reading.{Event}

nothing_stands : (front rest : List Event) (x : Event) → [] ≡ front ++ x ∷ rest → ⊥
nothing_stands [] rest x e = cc
nothing_stands (y ∷ front) rest x e = cc

-- of some things and one behind them one is the last, or is among the others
last_or_before : (es : List Event) (e : Event) (front rest : List Event) (x : Event) → es ++ e ∷ [] ≡ front ++ x ∷ rest
    → ((es ≡ front) × (e ≡ x)) ⊎ ((more : List Event) × (es ≡ front ++ x ∷ more))
last_or_before [] e [] rest x h = inl (refl, cc)
last_or_before [] e (y ∷ front) rest x h = absurd (nothing_stands front rest x (cc))
last_or_before (z ∷ es) e [] rest x h = let same : z ≡ x = cc in inr (es, ap (λ y. y ∷ es) same)
last_or_before (z ∷ es) e (y ∷ front) rest x h =
    let same : z ≡ y = cc in
    let others : es ++ e ∷ [] ≡ front ++ x ∷ rest = cc in
    ⊎_elim (λ b. inl ((λ i. same i ∷ b.0 i), b.1)) (λ m. inr (m.0, λ i. same i ∷ m.1 i)) (last_or_before es e front rest x others)

module _ (P : List Event → Event → Place → Type 0) where
  pub nowhere_none : Nowhere P []
  nowhere_none front rest e place parts here = nothing_stands front rest e parts

  -- none of some, and not the one behind them
  pub nowhere_more : (es : List Event) (e : Event) → Nowhere P es → ((p : Place) → P es e p → ⊥) → Nowhere P (es ++ e ∷ [])
  nowhere_more es e never last front rest x p parts here = at (last_or_before es e front rest x parts)
    where
      at : ((es ≡ front) × (e ≡ x)) ⊎ ((more : List Event) × (es ≡ front ++ x ∷ more)) → ⊥
      at (inl b) = last p (subst (λ y. P es y p) (sym b.1) (subst (λ f. P f x p) (sym b.0) here))
      at (inr m) = never front m.0 x p m.1 here

  -- the first of some is that of more
  pub first_stays : (es more : List Event) (p : Place) → FirstOf P es p → FirstOf P (es ++ more) p
  first_stays es more p f = (
    record {
      front = f.0.front;
      event = f.0.event;
      rest = f.0.rest ++ more;
      parts = ap (λ xs. xs ++ more) f.0.parts ∙ append_assoc f.0.front (f.0.event ∷ f.0.rest) more;
      here = f.0.here;
    },
    f.1,
  )

  -- the one behind those of which none is
  pub first_here : (es rest : List Event) (e : Event) (p : Place) → Nowhere P es → P es e p → FirstOf P (es ++ e ∷ rest) p
  first_here es rest e p never here = (record { front = es; event = e; rest = rest; parts = refl; here = here }, never)
