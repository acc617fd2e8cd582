-- Where arrow types stand.
use Rattle.std.proofs.Common.{◌≡◌, ℕ, zero, suc, ◌+◌, ◌<◌, ◌≤◌, Bool, true, false, ◌||◌, cond, List, [], ◌∷◌, ◌++◌, drop, get_or, length, map, refl, sym, ap, ◌∙◌, arith, if◌then◌else◌}
use Rattle.std.specs.List.{list_any}
use Rattle.std.proofs.lemmas.List.{length-map}
use Rattle.cg_base.specs.declared.ty.Ty.{Ty}
use Rattle.cg_base.specs.Same.{same_type}
use Rattle.cg_base.specs.Types.{Tau, type_of}
use Rattle.cg_inst.proofs.SameType.{same_is, same_self}
use Rattle.cg_lower_def.specs.Lowered.{arrow_number}
use Rattle.cg_lower_tables.specs.Found.{with_arrow}

other_type : (t u : Tau) → (u ≡ t → ⊥) → same_type u t ≡ false
other_type t u h = go (same_type u t) refl
  where
    go : (b : Bool) → same_type u t ≡ b → same_type u t ≡ false
    go true e = absurd (h (same_is u t e))
    go false e = e

pub arrow_past : (t : Tau) (us : List Ty) (i : ℕ) → length us ≤ i → arrow_number (map type_of (drop i us)) t ≡ 0
unfolding arrow_number
arrow_past t [] zero h = refl
arrow_past t [] (suc i) h = refl
arrow_past t (u ∷ us) zero h = absurd (omega arith)
arrow_past t (u ∷ us) (suc i) h = arrow_past t us i (omega arith)

-- the next type is this one, or it isn't
pub arrow_there : (t : Tau) (us : List Ty) (i : ℕ) (u : Ty) → i < length us → u ≡ get_or us i u → type_of u ≡ t → arrow_number (map type_of (drop i us)) t ≡ 0
unfolding arrow_number
arrow_there t [] i u h e s = absurd (omega arith)
arrow_there t (v ∷ us) zero u h e s =
    ap (λ b. if b then zero else suc (arrow_number (map type_of us) t)) (ap (λ w. same_type w t) (ap type_of (sym e) ∙ s) ∙ same_self t)
arrow_there t (v ∷ us) (suc i) u h e s = arrow_there t us i u (omega arith) e s

pub arrow_later : (t : Tau) (us : List Ty) (i : ℕ) (u : Ty) → i < length us → u ≡ get_or us i u → (type_of u ≡ t → ⊥)
    → arrow_number (map type_of (drop i us)) t ≡ suc (arrow_number (map type_of (drop (i + 1) us)) t)
unfolding arrow_number
arrow_later t [] i u h e s = absurd (omega arith)
arrow_later t (v ∷ us) zero u h e s = ap (λ b. if b then zero else suc (arrow_number (map type_of us) t)) (other_type t (type_of v) (λ w. s (ap type_of e ∙ w)))
arrow_later t (v ∷ us) (suc i) u h e s =
    arrow_later t us i u (omega arith) e s ∙ ap (λ j. suc (arrow_number (map type_of (drop j (v ∷ us))) t)) (next i)
  where
    next : (i : ℕ) → suc (i + 1) ≡ suc i + 1
    next i = omega arith

-- ---- whether a type is among others

below_any : (us : List Tau) (t : Tau) → arrow_number us t < length us → list_any (λ u. same_type u t) us ≡ true
unfolding arrow_number
below_any [] t h = absurd (omega arith)
below_any (u ∷ us) t h = by_test (same_type u t) h (below_any us t)
  where
    by_test : (b : Bool) → cond b zero (suc (arrow_number us t)) < length (u ∷ us) → (arrow_number us t < length us → list_any (λ v. same_type v t) us ≡ true)
        → (b || list_any (λ v. same_type v t) us) ≡ true
    by_test true h rest = refl
    by_test false h rest = rest (omega (arith, h))

past_any : (us : List Tau) (t : Tau) → length us ≤ arrow_number us t → list_any (λ u. same_type u t) us ≡ false
unfolding arrow_number
past_any [] t h = refl
past_any (u ∷ us) t h = by_test (same_type u t) h (past_any us t)
  where
    by_test : (b : Bool) → length (u ∷ us) ≤ cond b zero (suc (arrow_number us t)) → (length us ≤ arrow_number us t → list_any (λ v. same_type v t) us ≡ false)
        → (b || list_any (λ v. same_type v t) us) ≡ false
    by_test true h rest = absurd (omega (arith, h))
    by_test false h rest = rest (omega (arith, h))

pub arrow_held : (us : List Tau) (t : Tau) → arrow_number us t < length us → with_arrow us t ≡ us
arrow_held us t h = ap (λ b. if b then us else us ++ t ∷ []) (below_any us t h)

pub arrow_new : (us : List Tau) (t : Tau) → length us ≤ arrow_number us t → with_arrow us t ≡ us ++ t ∷ []
arrow_new us t h = ap (λ b. if b then us else us ++ t ∷ []) (past_any us t h)

-- the same by a number that is known, of the types that are held
module _ (us s : List Ty) (t : Tau) (n len : ℕ) (number : n ≡ arrow_number (map type_of s) t) (all : s ≡ us) (count : len ≡ length us) where
  pub held_by : n < len → map type_of us ≡ with_arrow (map type_of us) t
  held_by lt =
      let at = number ∙ ap (λ l. arrow_number (map type_of l) t) all in
      let mapped = length-map us type_of in sym (arrow_held (map type_of us) t (omega (arith, at, lt, count, mapped)))

  pub new_by : len ≤ n → map type_of us ++ t ∷ [] ≡ with_arrow (map type_of us) t
  new_by past =
      let at = number ∙ ap (λ l. arrow_number (map type_of l) t) all in
      let mapped = length-map us type_of in sym (arrow_new (map type_of us) t (omega (arith, at, past, count, mapped)))

pub ruleset arrow_steps = (arrow_past, arrow_there, arrow_later)
