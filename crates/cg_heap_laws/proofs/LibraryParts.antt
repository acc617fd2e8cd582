-- Fields one behind the other: taken apart, and put together.
use Rattle.std.proofs.Common.{◌≡◌, ℕ, ◌+◌, ◌≤◌, false, List, [], ◌∷◌, ◌++◌, length, take, drop, refl, sym, ap, ◌∙◌, subst, arith, length-append}
use Rattle.std.proofs.Math.Seq.{take-append_seam, drop-append_seam}
use Rattle.cg_base.specs.declared.kind.Sigil.{Sigil}
use Rattle.cg_base.specs.Types.{Tau, Parts, end, part}
use Rattle.cg_heap.specs.declared.cell.Scalar.{Scalar}
use Rattle.cg_heap.specs.Reps.{Heap, HeapWorld, Holds, HoldsAll, slots, foot, foot_all}
use Rattle.cg_heap_laws.proofs.Slots.{holds_slots}
use Rattle.cg_value.specs.Values as values
use Rattle.cg_value.specs.Values.{Val, Vals}

-- the first part of a joined list, and the rest
pub take_front : {A : Type 0} (n : ℕ) (xs ys : List A) → length xs ≡ n → take n (xs ++ ys) ≡ xs
take_front n xs ys e = subst (λ k. take k (xs ++ ys) ≡ xs) e (take-append_seam xs ys)

pub drop_front : {A : Type 0} (n : ℕ) (xs ys : List A) → length xs ≡ n → drop n (xs ++ ys) ≡ ys
drop_front n xs ys e = subst (λ k. drop k (xs ++ ys) ≡ ys) e (drop-append_seam xs ys)

-- a list of one at least, with what holds of its first and of the others
first_of : (A B : List Scalar → Type 0) (us : List Scalar) → 1 ≤ length us → A (take 1 us) → B (drop 1 us)
    → (u : Scalar) × (us' : List Scalar) × (us ≡ u ∷ us') × A (u ∷ []) × B us'
first_of A B [] k a b = absurd (omega arith)
first_of A B (u ∷ us) k a b = (u, us, refl, a, b)

-- the same, for a number that is one
first_by : (A B : List Scalar → Type 0) (n : ℕ) → n ≡ 1 → (us : List Scalar) → n ≤ length us → A (take n us) → B (drop n us)
    → (u : Scalar) × (us' : List Scalar) × (us ≡ u ∷ us') × A (u ∷ []) × B us'
first_by A B n e us k a b = first_of A B us (subst (λ n. n ≤ length us) e k) (subst (λ n. A (take n us)) e a) (subst (λ n. B (drop n us)) e b)

module _ (world : HeapWorld) (h : Heap) where
  -- a first field of one slot, and the others
  pub record Apart (t : Tau) (ps : Parts) (us : List Scalar) (vs : Vals) : Type 0 where
    pub scalar : Scalar
    pub scalars : List Scalar
    pub value : Val
    pub rest : Vals
    pub are_scalars : us ≡ scalar ∷ scalars
    pub are_values : vs ≡ values.more value rest
    pub first : Holds world h t (scalar ∷ []) value
    pub others : HoldsAll world h ps scalars rest

  pub apart : (name : List ℕ) (t : Tau) (ps : Parts) → slots t ≡ 1 → (us : List Scalar) (vs : Vals) → HoldsAll world h (part name t false ps) us vs → Apart t ps us vs
  unfolding Holds
  apart name t ps e us values.none r = absurd r
  apart name t ps e us (values.more v vs) r =
      let f = first_by (λ us. Holds world h t us v) (λ us. HoldsAll world h ps us vs) (slots t) e us r.0 r.1 r.2 in
      record { scalar = f.0; scalars = f.1; value = v; rest = vs; are_scalars = f.2; are_values = refl; first = f.3; others = f.4 }

  -- no fields
  pub no_more : (us : List Scalar) (vs : Vals) → HoldsAll world h end us vs → (us ≡ []) × (vs ≡ values.none)
  unfolding Holds
  no_more us values.none r = (r, refl)
  no_more us (values.more v vs) r = absurd r

  -- a field before others
  pub together : (name : List ℕ) (t : Tau) (ps : Parts) (us us' : List Scalar) (v : Val) (vs : Vals) → Holds world h t us v → HoldsAll world h ps us' vs
      → HoldsAll world h (part name t false ps) (us ++ us') (values.more v vs)
  unfolding Holds
  together name t ps us us' v vs r r' =
      let n = holds_slots world h t us v r in
      (omega (arith, length-append us us'), subst (λ x. Holds world h t x v) (sym (take_front (slots t) us us' n)) r, subst (λ x. HoldsAll world h ps x vs) (sym (drop_front (slots t) us us' n)) r')

-- and what these reach
pub together_foot : (h : Heap) (m : Sigil) (name : List ℕ) (t : Tau) (ps : Parts) (us us' : List Scalar) → length us ≡ slots t → (q : ℕ)
    → foot_all h m (part name t false ps) (us ++ us') q ≡ foot h m t us q + foot_all h m ps us' q
unfolding foot
together_foot h m name t ps us us' n q =
    ap (λ x. foot h m t x q + foot_all h m ps (drop (slots t) (us ++ us')) q) (take_front (slots t) us us' n) ∙ ap (λ x. foot h m t us q + foot_all h m ps x q) (drop_front (slots t) us us' n)
