-- The limit on types in the events of an operator of plain typing: it is that of its operands, each in its direction.
use Rattle.std.proofs.Common.{Bool, true, false, not, cond, Option, Some, None, List}
use Rattle.cg_base.specs.declared.place.Place.{Place}
use Rattle.cg_base.specs.Types as types
use Rattle.cg_base.specs.Types.{Tau}
use Rattle.cg_check_def.specs.NormalForm.{operand_type}
use Rattle.cg_faults.specs.Events.{Event, LimitsHold, unary_events, binary_events, guided}
use Rattle.cg_typing.specs.Operators.{Sort, arithmetic, equality, order, logic, operand}
use Rattle.cg_certcheck_laws.proofs.Limits.{LimitsFor, limits_append, limits_left, limits_right, meets_limits}

module _ (place : Place) (a : Tau) (part : Option Tau → List Event) where
  -- of what the operand's events say in the direction that its core has, and back
  pub one_limits : (sort : Sort) (direction : Option Tau) → LimitsHold (part (operand sort direction true (operand_type sort direction a)))
      → LimitsHold (unary_events sort direction place a part)
  one_limits logic direction h = limits_append (part (Some types.bool)) _ h (meets_limits direction place types.bool)
  one_limits arithmetic (Some t) h = (tt, h)
  one_limits arithmetic None h = limits_append (part None) _ h (tt, tt)
  one_limits equality direction h = limits_append (part None) _ h (tt, meets_limits direction place types.bool)
  one_limits order direction h = limits_append (part None) _ h (tt, meets_limits direction place types.bool)

  pub limits_one : (limited : Bool) (sort : Sort) (direction : Option Tau) → LimitsFor limited (unary_events sort direction place a part)
      → LimitsFor limited (part (operand sort direction true (operand_type sort direction a)))
  limits_one limited logic direction h = limits_left limited _ _ h
  limits_one limited arithmetic (Some t) h = h.1
  limits_one limited arithmetic None h = limits_left limited _ _ h
  limits_one limited equality direction h = limits_left limited _ _ h
  limits_one limited order direction h = limits_left limited _ _ h

module _ (place : Place) (a b : Tau) (left right : Option Tau → List Event) where
  abbrev two : Sort → Option Tau → Bool → Tau
  two sort direction q = operand_type sort direction (cond q b a)

  pub record TwoLimits (Hold : List Event → Type 0) (sort : Sort) (direction : Option Tau) (q : Bool) : Type 0 where
    pub left_within : Hold (left (operand sort direction (not q) (two sort direction q)))
    pub right_within : Hold (right (operand sort direction q (two sort direction q)))

  -- of what both say, and back
  pub two_limits : (sort : Sort) (direction : Option Tau) (q : Bool) → TwoLimits LimitsHold sort direction q → LimitsHold (binary_events sort direction place q a b left right)
  two_limits logic direction q h =
      limits_append (left (Some types.bool)) _ h.left_within (limits_append (right (Some types.bool)) _ h.right_within (meets_limits direction place types.bool))
  two_limits arithmetic (Some t) true h = (tt, limits_append (left (Some t)) _ h.left_within h.right_within)
  two_limits arithmetic (Some t) false h = (tt, limits_append (left (Some t)) _ h.left_within h.right_within)
  two_limits arithmetic None true h = limits_append (right None) _ h.right_within (tt, h.left_within)
  two_limits arithmetic None false h = limits_append (left None) _ h.left_within (tt, h.right_within)
  two_limits equality direction true h =
      limits_append (guided equality place b right left) _ (limits_append (right None) _ h.right_within (tt, h.left_within)) (meets_limits direction place types.bool)
  two_limits equality direction false h =
      limits_append (guided equality place a left right) _ (limits_append (left None) _ h.left_within (tt, h.right_within)) (meets_limits direction place types.bool)
  two_limits order direction true h =
      limits_append (guided order place b right left) _ (limits_append (right None) _ h.right_within (tt, h.left_within)) (meets_limits direction place types.bool)
  two_limits order direction false h =
      limits_append (guided order place a left right) _ (limits_append (left None) _ h.left_within (tt, h.right_within)) (meets_limits direction place types.bool)

  pub limits_two : (limited : Bool) (sort : Sort) (direction : Option Tau) (q : Bool) → LimitsFor limited (binary_events sort direction place q a b left right) → TwoLimits (LimitsFor limited) sort direction q
  limits_two limited logic direction q h = record { left_within = limits_left limited _ _ h; right_within = limits_left limited _ _ (limits_right limited (left (Some types.bool)) _ h) }
  limits_two limited arithmetic (Some t) true h = record { left_within = limits_left limited _ _ h.1; right_within = limits_right limited (left (Some t)) _ h.1 }
  limits_two limited arithmetic (Some t) false h = record { left_within = limits_left limited _ _ h.1; right_within = limits_right limited (left (Some t)) _ h.1 }
  limits_two limited arithmetic None true h = record { left_within = (limits_right limited (right None) _ h).1; right_within = limits_left limited _ _ h }
  limits_two limited arithmetic None false h = record { left_within = limits_left limited _ _ h; right_within = (limits_right limited (left None) _ h).1 }
  limits_two limited equality direction true h =
      let g = limits_left limited (guided equality place b right left) _ h in record { left_within = (limits_right limited (right None) _ g).1; right_within = limits_left limited _ _ g }
  limits_two limited equality direction false h =
      let g = limits_left limited (guided equality place a left right) _ h in record { left_within = limits_left limited _ _ g; right_within = (limits_right limited (left None) _ g).1 }
  limits_two limited order direction true h =
      let g = limits_left limited (guided order place b right left) _ h in record { left_within = (limits_right limited (right None) _ g).1; right_within = limits_left limited _ _ g }
  limits_two limited order direction false h =
      let g = limits_left limited (guided order place a left right) _ h in record { left_within = limits_left limited _ _ g; right_within = (limits_right limited (left None) _ g).1 }
