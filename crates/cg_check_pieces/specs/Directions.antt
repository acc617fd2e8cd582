-- Directions of operands, and of the fields of a record.
use Rattle.std.specs.Prelude.{Bool, false, true, Option, Some, None}
use Rattle.cg_base.specs.declared.place.Place.{Place}
use Rattle.cg_base.specs.Types as types
use Rattle.cg_base.specs.Types.{Tau}
use Rattle.cg_core.specs.Terms.{Named}
use Rattle.cg_faults.specs.Plain.{is_made_of}
use Rattle.cg_typing.specs.Operators.{Sort, arithmetic, logic}

-- the direction of an operand whose guide has this type, or of one of arithmetic that is checked
abbrev pub guided_direction : Sort → Option Tau → Tau → Option Tau
guided_direction arithmetic (Some wanted) t = Some wanted
guided_direction sort direction t = Some t

-- the direction of an operand behind a left one of this type
abbrev pub right_direction : Sort → Option Tau → Tau → Option Tau
right_direction logic direction t = Some types.bool
right_direction sort direction t = guided_direction sort direction t

-- whether the right operand is checked first: it guides a left one that is a literal
abbrev pub is_by_right : Sort → Option Tau → Bool → Bool
is_by_right logic direction literal = false
is_by_right arithmetic (Some t) literal = false
is_by_right sort direction literal = literal

-- fields are those of the type that is checked against, if any
abbrev pub may_be_made_of : Option Tau → Named Place → Bool
may_be_made_of None fs = true
may_be_made_of (Some t) fs = is_made_of t fs
