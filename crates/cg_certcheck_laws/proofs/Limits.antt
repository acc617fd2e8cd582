-- The limit on types in events of plain typing: in lists, and in events that judge rules alone.
use Rattle.std.proofs.Common.{◌≡◌, ℕ, suc, Bool, true, false, ◌||◌, IsTrue, Option, Some, None, List, [], ◌∷◌, ◌++◌, map}
use Rattle.cg_base.specs.declared.kind.Kinds.{Kinds}
use Rattle.cg_base.specs.declared.place.Place.{Place}
use Rattle.cg_base.specs.Types.{Tau}
use Rattle.cg_core.specs.declared.term.Seen.{Seen}
use Rattle.cg_core.specs.Kernels.{Function}
use Rattle.cg_core.specs.Terms.{Tree, Arg}
use Rattle.cg_faults.specs.Events.{Event, event, LimitsHold, Before, meets, judged, argument_events, asked_event, observer_events, scope_end, branch_events}
use Rattle.cg_faults.specs.Rule.{rule, type_limit}
use Rattle.cg_faults.specs.Occurrences.{Sighting, sightings}
use Rattle.cg_faults.specs.declared.rule.Rule.TheVariants.{K3}
use Rattle.cg_typing.specs.Contexts.{drops}
use Rattle.cg_typing.specs.Functions.{Asked, these, a_cell, an_element, nothing, next_asked, later_asked}

pub limits_append : (xs ys : List Event) → LimitsHold xs → LimitsHold ys → LimitsHold (xs ++ ys)
limits_append [] ys h k = k
limits_append (x ∷ xs) ys h k = (h.0, limits_append xs ys h.1 k)

-- the limit on types where it is asked for
abbrev pub LimitFor : Bool → Event → Type 0
LimitFor limited (event (rule r) place holds) = Unit {0}
LimitFor limited (event type_limit place holds) = limited ≡ true → IsTrue holds

abbrev pub LimitsFor : Bool → List Event → Type 0
LimitsFor limited [] = Unit {0}
LimitsFor limited (x ∷ later) = LimitFor limited x × LimitsFor limited later

pub limits_left : (limited : Bool) (xs ys : List Event) → LimitsFor limited (xs ++ ys) → LimitsFor limited xs
limits_left limited [] ys h = tt
limits_left limited (x ∷ xs) ys h = (h.0, limits_left limited xs ys h.1)

pub limits_right : (limited : Bool) (xs ys : List Event) → LimitsFor limited (xs ++ ys) → LimitsFor limited ys
limits_right limited [] ys h = h
limits_right limited (x ∷ xs) ys h = limits_right limited xs ys h.1

-- asked for it holds, and else nothing is asked
pub limits_asked : (xs : List Event) → LimitsHold xs → LimitsFor true xs
limits_asked [] h = tt
limits_asked (event (rule r) place holds ∷ xs) h = (tt, limits_asked xs h.1)
limits_asked (event type_limit place holds ∷ xs) h = (λ e. h.0, limits_asked xs h.1)

pub no_limits : (xs : List Event) → LimitsFor false xs
no_limits [] = tt
no_limits (event (rule r) place holds ∷ xs) = (tt, no_limits xs)
no_limits (event type_limit place holds ∷ xs) = (λ e. absurd (cc), no_limits xs)

pub meets_limits : (direction : Option Tau) (place : Place) (t : Tau) → LimitsHold (meets direction place t)
meets_limits None place t = tt
meets_limits (Some u) place t = (tt, tt)

pub branch_limits : (vars : List Kinds) (u v : ℕ → Bool) (x y : Place) (p : List Tau) → LimitsHold (branch_events vars u v x y p)
branch_limits vars u v x y [] = tt
branch_limits vars u v x y (t ∷ p) = (tt, branch_limits vars (λ i. u (suc i)) (λ i. v (suc i)) x y p)

module _ (functions : List Function) (vars : List Kinds) where
  asked_limits : (asked : Asked) (place : Place) (t : Tau) → LimitsHold (asked_event functions vars asked place t)
  asked_limits (these k) place t = (tt, tt)
  asked_limits a_cell place t = (tt, tt)
  asked_limits an_element place t = (tt, tt)
  asked_limits nothing place t = tt

  pub argument_limits : (asked : List Asked) (args : List Arg) → LimitsHold (argument_events functions vars asked args)
  argument_limits asked [] = tt
  argument_limits asked (a ∷ args) = (tt, limits_append _ _ (asked_limits (next_asked asked) a.place a.ty) (argument_limits (later_asked asked) args))

  pub observer_limits : (p : List Tau) (b : Before) (os : List Seen) → LimitsHold (observer_events functions vars p b os)
  observer_limits p b [] = tt
  observer_limits p b (o ∷ os) = (tt, observer_limits p b os)

  pub scope_limits : (n : ℕ) (binder : Place) (t : Tau) (k : Tree Place) → LimitsHold (scope_end functions vars n binder t k)
  scope_limits n binder t k = (tt, go (sightings n k))
    where
      go : (ss : List Sighting) → LimitsHold (map (λ s. judged K3 s.place (drops vars t || s.used_later)) ss)
      go [] = tt
      go (s ∷ ss) = (tt, go ss)
