-- Numbers above a bound.
use Rattle.std.proofs.Common.{◌≡◌, ℕ, zero, suc, ◌<◌, ◌≤◌, ◌^◌, Bool, true, false, ◌⊎◌, inl, inr, List, [], ◌∷◌, ◌++◌, map, Some, None, refl, sym, ap, ◌∙◌, subst, arith}
use Rattle.std.proofs.lemmas.Bool.{ltb-false, ltb-true}
use Rattle.std.specs.Prelude.{Option, nat_lt, slice_get, unwrap_or}
use Rattle.cg_base.specs.declared.place.Place.{Place}
use Rattle.cg_base.proofs.Options.{some_is}
use Rattle.cg_base.proofs.Truths.{either_bool}
use Rattle.cg_heaptext_def.specs.HeapText.{Never}
use Rattle.cg_heaptext_def.specs.Trees.{Numeral, amount}
use Rattle.cg_heaptext_places.specs.Noted.{AreThose, IsLeast, noted_all}
use Rattle.cg_heaptext_places.proofs.Noting.{least_of, noted_both}
use Rattle.cg_heaptext_cells.specs.Cells.{IsAbove}
use Rattle.cg_heaptext_cells.specs.Numbers.{places_above, with_place}

-- ---- the places are those of the numbers above the bound

module _ (most : ℕ) where
  later : (n : Numeral) (ns : List Numeral) (p : Place) → IsAbove most ns p → IsAbove most (n ∷ ns) p
  later n ns p a = (suc a.0, a.1, a.2, a.3, a.4)

  above_at : (n : Numeral) (ns : List Numeral) (ps : List Place) → ((i : ℕ) (p : Place) → slice_get ps i ≡ Some p → IsAbove most ns p) → (b : Bool) → nat_lt most (amount n) ≡ b → (i : ℕ) (p : Place)
      → slice_get (with_place b n.place ps) i ≡ Some p → IsAbove most (n ∷ ns) p
  above_at n ns ps rest true e zero p s = (zero, n, refl, ltb-true most (amount n) e, sym (some_is n.place p s))
  above_at n ns ps rest true e (suc i) p s = later n ns p (rest i p s)
  above_at n ns ps rest false e i p s = later n ns p (rest i p s)

  each_above : (ns : List Numeral) (i : ℕ) (p : Place) → slice_get (places_above most ns) i ≡ Some p → IsAbove most ns p
  each_above [] i p s = absurd (cc)
  each_above (n ∷ ns) i p s = above_at n ns (places_above most ns) (each_above ns) (nat_lt most (amount n)) refl i p s

  first_place : (n : Numeral) (ps : List Place) (p : Place) (b : Bool) → nat_lt most (amount n) ≡ b → most < amount n → p ≡ n.place → (i : ℕ) × (slice_get (with_place b n.place ps) i ≡ Some p)
  first_place n ps p true e lt at = (zero, ap (λ q. Some q) (sym at))
  first_place n ps p false e lt at = let le = ltb-false most (amount n) e in absurd (omega (arith, le, lt))

  later_place : (q p : Place) (ps : List Place) (b : Bool) → (i : ℕ) × (slice_get ps i ≡ Some p) → (i : ℕ) × (slice_get (with_place b q ps) i ≡ Some p)
  later_place q p ps true s = (suc s.0, s.1)
  later_place q p ps false s = s

  all_above : (ns : List Numeral) (p : Place) (i : ℕ) (m : Numeral) → slice_get ns i ≡ Some m → most < amount m → p ≡ m.place → (j : ℕ) × (slice_get (places_above most ns) j ≡ Some p)
  all_above [] p i m s lt at = absurd (cc)
  all_above (n ∷ ns) p zero m s lt at =
      let same : m ≡ n = sym (some_is n m s) in
      first_place n (places_above most ns) p (nat_lt most (amount n)) refl (subst (λ (x : Numeral). most < amount x) same lt) (at ∙ ap (λ (x : Numeral). x.place) same)
  all_above (n ∷ ns) p (suc i) m s lt at = later_place n.place p (places_above most ns) (nat_lt most (amount n)) (all_above ns p i m s lt at)

  are_those : (ns : List Numeral) → AreThose (IsAbove most ns) (places_above most ns)
  are_those ns = record { hold = each_above ns; all = λ p a. all_above ns p a.0 a.1 a.2 a.3 a.4 }

  -- of the places that were noted the first is left
  pub least_above : (ns : List Numeral) (over : Option Place) → over ≡ noted_all None (places_above most ns) → IsLeast (IsAbove most ns) over
  least_above ns over is = least_of (IsAbove most ns) over (places_above most ns) is (are_those ns)

  -- one number more behind those
  places_both : (ns ms : List Numeral) → places_above most (ns ++ ms) ≡ places_above most ns ++ places_above most ms
  places_both [] ms = refl
  places_both (n ∷ ns) ms = ap (with_place (nat_lt most (amount n)) n.place) (places_both ns ms) ∙ in_front (nat_lt most (amount n)) n.place (places_above most ns) (places_above most ms)
    where
      in_front : (b : Bool) (p : Place) (ps qs : List Place) → with_place b p (ps ++ qs) ≡ with_place b p ps ++ qs
      in_front true p ps qs = refl
      in_front false p ps qs = refl

  pub noted_behind : (ns ms : List Numeral) (over next : Option Place) → over ≡ noted_all None (places_above most ns) → next ≡ noted_all over (places_above most ms) → next ≡ noted_all None (places_above most (ns ++ ms))
  noted_behind ns ms over next is e =
      e ∙ ap (λ found. noted_all found (places_above most ms)) is ∙ sym (noted_both None (places_above most ns) (places_above most ms)) ∙ ap (noted_all None) (sym (places_both ns ms))
