-- Operators as one step of the pass after another: an operand, the other one, and the type of both.
use Rattle.std.specs.Prelude.{ℕ, Option, Some, None, List, Ok}
use Rattle.cg_base.specs.declared.place.Place.{Place}
use Rattle.cg_base.specs.Types as types
use Rattle.cg_base.specs.Types.{Tau}
use Rattle.cg_certcheck_ends.specs.Ends.{both_end, literal_end, one_end}
use Rattle.cg_certcheck_def.specs.Pass.{Cursor, Got, Out, Way, bind, row}
use Rattle.cg_check_pieces.specs.Directions.{right_direction}
use Rattle.cg_core.specs.declared.derivation.Mark.{Mark}
use Rattle.cg_core.specs.declared.op.Op.{Op}
use Rattle.cg_kinds.specs.Kinds.{is_word}
use Rattle.cg_typing.specs.Operators.{Sort, arithmetic, logic, takes}

-- an operand that guides the other one: it is of a type that the operator takes
abbrev pub guide : Sort → ℕ → Out Got → Out Got
guide sort n answer = bind answer (λ u. row n (takes sort u.ty) (Ok u))

-- the operand that is checked first: as the node says, or as the guide of the other one
abbrev pub first_operand : Sort → Option Tau → ℕ → (Option Tau → Out Got) → Out Got
first_operand logic direction n x = x (Some types.bool)
first_operand arithmetic (Some t) n x = row n (is_word t) (x (Some t))
first_operand sort direction n x = guide sort n (x None)

abbrev pub unary_by : Sort → Op → Option Tau → ℕ → Place → (Option Tau → Out Got) → Out Got
unary_by sort o direction n place x = bind (first_operand sort direction n x) (λ u. one_end o sort direction n place u)

abbrev pub by_left : List Mark → Sort → Op → Option Tau → ℕ → Place → (Option Tau → Out Got) → Way → Out Got
by_left m sort o direction n place l r =
    bind (first_operand sort direction n l) (λ x. bind (r x.at (right_direction sort direction x.ty)) (λ y. both_end m o sort direction n place x.ty x y))

-- the left operand is a literal, whose node has this number
abbrev pub by_right : List Mark → Sort → Op → Option Tau → ℕ → Place → Place → Option ℕ → ℕ → Out Cursor → Way → Out Got
by_right m sort o direction n place note value number reached r =
    bind reached (λ behind. bind (guide sort n (r behind None)) (λ y. literal_end m o sort direction n place note value number behind y))
