-- No two arrow types that are collected are one.
use Rattle.std.proofs.Common.{◌≡◌, ◌⊎◌, inl, inr, ⊎_elim, ℕ, zero, suc, Bool, true, false, List, [], ◌∷◌, ◌++◌, length, slice_get, Some, refl, sym, ap, subst, ◌∙◌, if◌then◌else◌}
use Rattle.std.specs.List.{list_any}
use Rattle.cg_base.specs.Same.{same_type}
use Rattle.cg_base.specs.Types.{Tau}
use Rattle.cg_lower.specs.Calls.{AreApart}
use Rattle.cg_lower.specs.Collected.{with_arrows}
use Rattle.cg_lower_tables.specs.Found.{with_arrow}
use Rattle.cg_inst.proofs.SameType.{same_is, same_self}
use Rattle.cg_ctree.proofs.Munch.{either_false as or_right}
use Rattle.cg_base.proofs.Truths.{either_first as or_left}

-- an element of a list with one more at the end
last_or : (xs : List Tau) (x y : Tau) (i : ℕ) → slice_get (xs ++ x ∷ []) i ≡ Some y → (slice_get xs i ≡ Some y) ⊎ ((i ≡ length xs) × (x ≡ y))
last_or [] x y zero e = inr (refl, (cc))
last_or [] x y (suc i) e = absurd (cc)
last_or (z ∷ xs) x y zero e = inl e
last_or (z ∷ xs) x y (suc i) e = ⊎_elim (λ h. inl h) (λ h. inr (ap suc h.0, h.1)) (last_or xs x y i e)

-- a type that is among none is none of them
other : (arrows : List Tau) (t u : Tau) (i : ℕ) → list_any (λ v. same_type v t) arrows ≡ false → slice_get arrows i ≡ Some u → u ≡ t → ⊥
other [] t u i none at same = absurd (cc)
other (v ∷ vs) t u zero none at same =
    let is : v ≡ t = (let s : v ≡ u = cc in s ∙ same) in
    let yes = ap (λ z. same_type z t) is ∙ same_self t in
    let no = or_left (same_type v t) (list_any (λ w. same_type w t) vs) none in absurd (cc)
other (v ∷ vs) t u (suc i) none at same = other vs t u i (or_right (same_type v t) (list_any (λ w. same_type w t) vs) none) at same

apart_behind : (arrows : List Tau) (t : Tau) → AreApart arrows → list_any (λ v. same_type v t) arrows ≡ false → AreApart (arrows ++ t ∷ [])
apart_behind arrows t apart none i j a b at_i at_j same =
    ⊎_elim
    (λ p. ⊎_elim (λ q. apart i j a b p q same) (λ q. absurd (other arrows t a i none p (same_is a b same ∙ sym q.1))) (last_or arrows t b j at_j))
    (λ p. ⊎_elim (λ q. absurd (other arrows t b j none q (sym (same_is a b same) ∙ sym p.1))) (λ q. p.0 ∙ sym q.0) (last_or arrows t b j at_j))
    (last_or arrows t a i at_i)

apart_more : (arrows : List Tau) (t : Tau) → AreApart arrows → AreApart (with_arrow arrows t)
apart_more arrows t apart = by (list_any (λ v. same_type v t) arrows) refl
  where
    by : (b : Bool) → list_any (λ v. same_type v t) arrows ≡ b → AreApart (with_arrow arrows t)
    by true e = subst (λ z. AreApart (if z then arrows else arrows ++ t ∷ [])) (sym e) apart
    by false e = subst (λ z. AreApart (if z then arrows else arrows ++ t ∷ [])) (sym e) (apart_behind arrows t apart e)

apart_from : (known ts : List Tau) → AreApart known → AreApart (with_arrows known ts)
unfolding with_arrows
apart_from known [] apart = apart
apart_from known (t ∷ ts) apart = apart_from (with_arrow known t) ts (apart_more known t apart)

pub collected_apart : (ts : List Tau) → AreApart (with_arrows [] ts)
collected_apart ts = apart_from [] ts (λ i j a b p q same. absurd (cc))
