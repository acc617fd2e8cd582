-- What the events of an operator say: those of each operand hold in some direction.
use Rattle.std.proofs.Common.{◌≡◌, Bool, true, false, Option, Some, None, List, refl}
use Rattle.cg_base.specs.declared.place.Place.{Place}
use Rattle.cg_base.specs.Types.{Tau, bool}
use Rattle.cg_faults.specs.Events.{Event, checked, guided, binary_events, unary_events, RulesHold}
use Rattle.cg_typing.specs.Operators.{Sort, arithmetic, equality, order, logic}
use Rattle.cg_check_laws.proofs.Basics.{hold_left, hold_right}

-- a form that is checked alone
pub checked_is : (dir : Option Tau) (place : Place) (f : Tau → List Event) → RulesHold (checked dir place f) → (t : Tau) × (dir ≡ Some t) × RulesHold (f t)
checked_is None place f h = absurd (let q = h.0 in cc)
checked_is (Some t) place f h = (t, refl, h)

module _ (place : Place) (left right : Option Tau → List Event) where
  pub left_holds : (sort : Sort) (dir : Option Tau) (lit : Bool) (a b : Tau) → RulesHold (binary_events sort dir place lit a b left right) → (way : Option Tau) × RulesHold (left way)
  left_holds logic dir lit a b h = (Some bool, hold_left _ _ h)
  left_holds arithmetic (Some t) lit a b h = (Some t, hold_left _ _ h.1)
  left_holds arithmetic None true a b h = (Some b, (hold_right (right None) _ h).1)
  left_holds arithmetic None false a b h = (None, hold_left _ _ h)
  left_holds equality dir true a b h = (Some b, (hold_right (right None) _ (hold_left (guided equality place b right left) _ h)).1)
  left_holds equality dir false a b h = (None, hold_left _ _ (hold_left (guided equality place a left right) _ h))
  left_holds order dir true a b h = (Some b, (hold_right (right None) _ (hold_left (guided order place b right left) _ h)).1)
  left_holds order dir false a b h = (None, hold_left _ _ (hold_left (guided order place a left right) _ h))

  pub right_holds : (sort : Sort) (dir : Option Tau) (lit : Bool) (a b : Tau) → RulesHold (binary_events sort dir place lit a b left right) → (way : Option Tau) × RulesHold (right way)
  right_holds logic dir lit a b h = (Some bool, hold_left _ _ (hold_right (left (Some bool)) _ h))
  right_holds arithmetic (Some t) lit a b h = (Some t, hold_right (left (Some t)) _ h.1)
  right_holds arithmetic None true a b h = (None, hold_left _ _ h)
  right_holds arithmetic None false a b h = (Some a, (hold_right (left None) _ h).1)
  right_holds equality dir true a b h = (None, hold_left _ _ (hold_left (guided equality place b right left) _ h))
  right_holds equality dir false a b h = (Some a, (hold_right (left None) _ (hold_left (guided equality place a left right) _ h)).1)
  right_holds order dir true a b h = (None, hold_left _ _ (hold_left (guided order place b right left) _ h))
  right_holds order dir false a b h = (Some a, (hold_right (left None) _ (hold_left (guided order place a left right) _ h)).1)

module _ (place : Place) (operand : Option Tau → List Event) where
  pub operand_holds : (sort : Sort) (dir : Option Tau) (a : Tau) → RulesHold (unary_events sort dir place a operand) → (way : Option Tau) × RulesHold (operand way)
  operand_holds logic dir a h = (Some bool, hold_left _ _ h)
  operand_holds arithmetic (Some t) a h = (Some t, h.1)
  operand_holds arithmetic None a h = (None, hold_left _ _ h)
  operand_holds equality dir a h = (None, hold_left _ _ h)
  operand_holds order dir a h = (None, hold_left _ _ h)
