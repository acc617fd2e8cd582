-- Computed cases of faults in their own words.
use Rattle.std.proofs.Common.{◌≡◌, ◌<◌, ℕ, zero, suc, true, false, cond, nat_eq, Some, List, [], ◌∷◌, slice_get, inl, inr, refl, sym, subst, arith}
use Rattle.cg_base.specs.declared.place.Place.{Place}
use Rattle.cg_base.specs.Types as types
use Rattle.cg_base.specs.Types.{Tau, arrow}
use Rattle.cg_core.specs.Kernels.{Function}
use Rattle.cg_core.specs.Terms.{Tree, unit, var}
use Rattle.cg_faults.specs.Same.{same}
use Rattle.cg_faults.specs.declared.rule.Rule.TheVariants.{T1}
use Rattle.cg_kinds.specs.Kinds.{kinds, both}
use Rattle.cg_typing.specs.Samples.{node, spot}
use Rattle.cg_check_laws.specs.Cases.{with_body, only, UnitFails, BoolFails, LitFails, NewFails, DroppedFails, Faults}
use Rattle.cg_faults.specs.Conditions.{Condition, typed, Breaks, conditions}
use Rattle.cg_faults.specs.Fails.{Moment, at_signature, at_node, at_end, NodeBefore, MomentBefore, Judged, JudgedBefore, root_of, FailsInSignature, FailsInFunction, FailsAt, Fails}
use Rattle.cg_typing.specs.Library.{state}
use Rattle.cg_typing.specs.Parts.{is_arrow, has_word_arrays}
use Rattle.cg_faults.specs.Rule.{Test, rule}
use Rattle.cg_faults.specs.Sites.{Path, argument, Site, shape_inside}
use Rattle.cg_faults.specs.Touches.{IsUse, HasUse}

-- nothing stands before the first condition of the body's node but its signature
none_before : (q : Path) (m : ℕ) → NodeBefore q m [] 0 → ⊥
none_before [] m l = omega arith
none_before (i ∷ q) m l = omega arith

signature_holds : (functions : List Function) (f : Function) → is_arrow f.ty.ty ≡ true → has_word_arrays f.ty.ty ≡ true → (n : ℕ) (t : Test) (p : Place) → FailsInSignature functions f n t p → ⊥
signature_holds functions f a w zero t p h = let z = h.is in cc
signature_holds functions f a w (suc zero) t p h = let z = h.is in cc
signature_holds functions f a w (suc (suc n)) t p h = let z = h.is in cc

-- the function at position 0 of one
the_one : (f g : Function) (i : ℕ) → i ≡ 0 → slice_get (f ∷ []) i ≡ Some g → g ≡ f
the_one f g zero e h = cc
the_one f g (suc i) e h = absurd (omega arith)

module _ (ty : Tau) (e : Tree Place) (is_an_arrow : is_arrow ty ≡ true) (arrays : has_word_arrays ty ≡ true) where
  abbrev f : Function
  f = with_body ty e

  abbrev root : Site
  root = root_of f (record { param = spot 0; term = e })

  -- what the first moment of the body judges
  abbrev here : List Condition
  here = conditions (only ty e) [] root 0

  -- before it only the signature is judged
  before_root : (m : Moment) → MomentBefore m (at_node [] 0) → (k : ℕ) (t : Test) (p : Place) → FailsInFunction (only ty e) f m k t p → ⊥
  before_root at_signature l k t p h = signature_holds (only ty e) f is_an_arrow arrays k t p h
  before_root (at_node q m) l k t p h = none_before q m l
  before_root at_end l k t p h = l

  at_root : (test : Test) (place : Place) (n : ℕ) → slice_get here n ≡ Some (typed test place false)
      → ((k : ℕ) → k < n → (c : Condition) → slice_get here k ≡ Some c → (t : Test) (p : Place) → Breaks (only ty e) root c t p → ⊥) → Fails (only ty e) test place
  at_root test place n is holds = record {
    judged = record { fun = 0; moment = at_node [] 0; number = n };
    fails = record { function = f; is = refl; fails = (typed test place false, is, (refl, refl, refl)) };
    first = earlier;
  }
    where
      at_once : (k : ℕ) → k < n → (t : Test) (p : Place) → FailsInFunction (only ty e) f (at_node [] 0) k t p → ⊥
      at_once k l t p h = holds k l h.0 h.1 t p h.2

      earlier : (other : Judged) → JudgedBefore other (record { fun = 0; moment = at_node [] 0; number = n }) → (t : Test) (p : Place) → FailsAt (only ty e) other t p → ⊥
      earlier o (inl l) t p h = omega arith
      earlier o (inr (z, inl l)) t p h =
          before_root o.moment l o.number t p (subst (λ g. FailsInFunction (only ty e) g o.moment o.number t p) (the_one f h.function o.fun z h.is) h.fails)
      earlier o (inr (z, inr (m, l))) t p h =
          at_once o.number l t p (subst (λ m. FailsInFunction (only ty e) f m o.number t p) m
          (subst (λ g. FailsInFunction (only ty e) g o.moment o.number t p) (the_one f h.function o.fun z h.is) h.fails))

  -- the second condition, behind one that holds
  at_second : (test : Test) (place : Place) (tested : Test) (at : Place) → slice_get here 0 ≡ Some (typed tested at true) → slice_get here 1 ≡ Some (typed test place false) → Fails (only ty e) test place
  at_second test place tested at first is = at_root test place 1 is (λ k l c x t p h. go k l c x t p h)
    where
      go : (k : ℕ) → k < 1 → (c : Condition) → slice_get here k ≡ Some c → (t : Test) (p : Place) → Breaks (only ty e) root c t p → ⊥
      go zero l c x t p h = let same : c ≡ typed tested at true = cc in let z = subst (λ c. Breaks (only ty e) root c t p) same h in let w = z.2 in cc
      go (suc k) l c x t p h = omega arith

none_below : (k : ℕ) → k < 0 → ⊥
none_below k l = omega arith

unit_fails : UnitFails
unfolding same
unit_fails = at_root _ _ refl refl _ _ 0 refl (λ k l c is t p h. none_below k l)

bool_fails : BoolFails
unfolding same
bool_fails = at_root _ _ refl refl _ _ 0 refl (λ k l c is t p h. none_below k l)

lit_fails : LitFails
lit_fails = at_second _ _ refl refl _ _ _ _ refl refl

new_fails : NewFails
new_fails = at_second _ _ refl refl _ _ _ _ refl refl

-- ---- the dropped token

abbrev dropping : Function
dropping = with_body (arrow state types.unit) (node 1 unit)

abbrev kernel : List Function
kernel = dropping ∷ []

abbrev body : Site
body = root_of dropping (record { param = spot 0; term = node 1 unit })

-- the body has no variable
no_use : HasUse kernel body argument [] → ⊥
no_use (below, u) = go below u
  where
    go : (q : Path) → IsUse kernel body argument q → ⊥
    go [] u = let a : body ≡ u.site = (let z = u.stands in cc) in let b : unit ≡ var u.position = subst (λ s. shape_inside s.node ≡ var u.position) (sym a) u.is in cc
    go (j ∷ q) u = let z = u.stands in cc

holds_still : (tested : Test) (at : Place) (z : _) (k : ℕ) (c : Condition) → slice_get (cond z (typed tested at true ∷ []) []) k ≡ Some c → (t : Test) (p : Place) → Breaks kernel body c t p → ⊥
holds_still tested at true zero c is t p h =
    let b = subst (λ c. Breaks kernel body c t p) (let x : c ≡ typed tested at true = cc in x) h in let z = b.2 in cc
holds_still tested at true (suc k) c is t p h = cc
holds_still tested at false k c is t p h = cc

before_end : (m : Moment) → MomentBefore m at_end → (k : ℕ) (t : Test) (p : Place) → FailsInFunction kernel dropping m k t p → ⊥
unfolding same
before_end at_signature l k t p h = signature_holds kernel dropping refl refl k t p h
before_end (at_node [] zero) l zero t p h = let b = subst (λ c. Breaks kernel body c t p) (let e = h.1 in let x : h.0 ≡ typed (rule T1) (spot 1) true = cc in x) h.2 in let z = b.2 in cc
before_end (at_node [] zero) l (suc k) t p h = let e = h.1 in cc
before_end (at_node [] (suc m)) l k t p h = holds_still _ _ (nat_eq (suc m) 1) k h.0 h.1 t p h.2
before_end (at_node (j ∷ q) m) l k t p h = let e = h.1 in cc
before_end at_end l k t p h = l

dropped_fails : DroppedFails
unfolding kinds both
dropped_fails = record {
  judged = record { fun = 0; moment = at_end; number = 0 };
  fails = record { function = dropping; is = refl; fails = (_, refl, (refl, refl, refl, no_use)) };
  first = earlier;
}
  where
    at_moment : (m : Moment) → m ≡ at_end → (k : ℕ) → k < 0 → ⊥
    at_moment m e k l = omega arith

    earlier : (other : Judged) → JudgedBefore other (record { fun = 0; moment = at_end; number = 0 }) → (t : Test) (p : Place) → FailsAt kernel other t p → ⊥
    earlier o (inl l) t p h = omega arith
    earlier o (inr (z, inl l)) t p h = before_end o.moment l o.number t p (subst (λ g. FailsInFunction kernel g o.moment o.number t p) (the_one dropping h.function o.fun z h.is) h.fails)
    earlier o (inr (z, inr (m, l))) t p h = at_moment o.moment m o.number l

pub faults : Faults
faults = record { unit_fails = unit_fails; bool_fails = bool_fails; lit_fails = lit_fails; new_fails = new_fails; dropped_fails = dropped_fails }
