-- Which cells were mentioned before, and at which types.
use Rattle.std.proofs.Common.{◌≡◌, ◌≢◌, ℕ, zero, suc, Bool, true, false, ◌&&◌, not, nat_eq, ◌⊎◌, inl, inr, List, [], ◌∷◌, ◌++◌, slice_get, Some, refl, sym, ap, ◌∙◌, subst, eqb-true}
use Rattle.std.proofs.lemmas.Bool.{true≢false}
use Rattle.cg_base.proofs.Counts.{eqb_same}
use Rattle.cg_base.proofs.Options.{some_is}
use Rattle.cg_base.proofs.Truths.{both, either_bool, not_true, or_cases, or_left, or_true}
use Rattle.cg_base.specs.Same.{same_type}
use Rattle.cg_base.specs.Types.{Tau}
use Rattle.cg_inst.proofs.SameType.{same_is, same_self}
use Rattle.cg_kinds.specs.Shapes.{shape}
use Rattle.cg_heaptext_def.specs.HeapText.{IsMentioned}
use Rattle.cg_heaptext_def.specs.Reading.{Event, misfit, counted, mention}
use Rattle.cg_heaptext_judge_def.specs.Judging.{met_in, unlike, was_met}

-- ---- shapes

pub unlike_differs : (t s : Tau) → unlike t s ≡ true → shape s ≢ shape t
unlike_differs t s e same = true≢false (sym (sym (not_true (same_type (shape s) (shape t)) e) ∙ ap (same_type (shape s)) (sym same) ∙ same_self (shape s)))

pub differs_unlike : (t s : Tau) → shape s ≢ shape t → unlike t s ≡ true
differs_unlike t s differ = by_test (either_bool (same_type (shape s) (shape t)))
  where
    by_test : (same_type (shape s) (shape t) ≡ true) ⊎ (same_type (shape s) (shape t) ≡ false) → unlike t s ≡ true
    by_test (inl e) = absurd (differ (same_is (shape s) (shape t) e))
    by_test (inr e) = ap not e

-- ---- mentions

pub mentioned_then : (P Q : Tau → Type 0) (es : List Event) (q : ℕ) → ((s : Tau) → P s → Q s) → IsMentioned P es q → IsMentioned Q es q
mentioned_then P Q es q f m = record { i = m.i; place = m.place; ty = m.ty; there = m.there; holds = f m.ty m.holds }

later : (P : Tau → Type 0) (x : Event) (es : List Event) (q : ℕ) → IsMentioned P es q → IsMentioned P (x ∷ es) q
later P x es q m = record { i = suc m.i; place = m.place; ty = m.ty; there = m.there; holds = m.holds }

module _ (test : Tau → Bool) where
  abbrev Passes : Tau → Type 0
  Passes s = test s ≡ true

  -- what the test finds was mentioned
  pub met_is : (es : List Event) (q : ℕ) → was_met test (met_in es) q ≡ true → IsMentioned Passes es q
  met_is [] q e = absurd (cc)
  met_is (misfit p ∷ es) q e = later Passes (misfit p) es q (met_is es q e)
  met_is (counted n bound ∷ es) q e = later Passes (counted n bound) es q (met_is es q e)
  met_is (mention p r t ∷ es) q e = by_test (or_cases (nat_eq r q && test t) (was_met test (met_in es) q) e) (λ h. met_is es q h)
    where
      by_test : ((nat_eq r q && test t) ≡ true) ⊎ (was_met test (met_in es) q ≡ true) → (was_met test (met_in es) q ≡ true → IsMentioned Passes es q) → IsMentioned Passes (mention p r t ∷ es) q
      by_test (inl h) others =
          let b = both (nat_eq r q) (test t) h in
          record { i = zero; place = p; ty = t; there = ap (λ r. Some (mention p r t)) (eqb-true r q b.0); holds = b.1 }
      by_test (inr h) others = later Passes (mention p r t) es q (others h)

  -- and back
  pub is_met : (es : List Event) (q : ℕ) → IsMentioned Passes es q → was_met test (met_in es) q ≡ true
  is_met es q m = from es m.i m.there
    where
      from : (es : List Event) (i : ℕ) → slice_get es i ≡ Some (mention m.place q m.ty) → was_met test (met_in es) q ≡ true
      from [] i e = absurd (cc)
      from (x ∷ es) zero e =
          subst (λ y. was_met test (met_in (y ∷ es)) q ≡ true) (sym (some_is x (mention m.place q m.ty) e))
          (or_left (nat_eq q q && test m.ty) (was_met test (met_in es) q) (ap (λ b. b && test m.ty) (eqb_same q) ∙ m.holds))
      from (misfit p ∷ es) (suc i) e = from es i e
      from (counted n bound ∷ es) (suc i) e = from es i e
      from (mention p r t ∷ es) (suc i) e = or_true (nat_eq r q && test t) (was_met test (met_in es) q) (from es i e)

-- with one more thing
pub met_more : (es : List Event) (e : Event) → met_in (es ++ e ∷ []) ≡ met_in es ++ met_in (e ∷ [])
met_more [] e = refl
met_more (misfit p ∷ es) e = met_more es e
met_more (counted n bound ∷ es) e = met_more es e
met_more (mention p q t ∷ es) e = ap (λ ms. record { place = p; address = q; ty = t } ∷ ms) (met_more es e)
