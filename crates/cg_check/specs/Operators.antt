-- Operators as one step of the pass after another: an operand, the other one, and the type of both.
use Rattle.std.specs.Prelude.{Bool, cond, List, Option, Some, None, Ok}
use Rattle.cg_base.specs.declared.place.Place.{Place}
use Rattle.cg_base.specs.Types as types
use Rattle.cg_base.specs.Types.{Tau}
use Rattle.cg_check_ends.specs.Ends.{both_end, one_end}
use Rattle.cg_check_def.specs.Pass.{Got, Out, Way, bind, need}
use Rattle.cg_check_pieces.specs.Directions.{guided_direction, is_by_right, right_direction}
use Rattle.cg_core.specs.declared.op.Op.{Op}
use Rattle.cg_faults.specs.declared.rule.Rule.TheVariants.{T12}
use Rattle.cg_kinds.specs.Kinds.{is_word}
use Rattle.cg_typing.specs.Operators.{Sort, arithmetic, logic, takes}
use Rattle.cg_check_uses.specs.Uses.{mark}

-- the operand that is checked first: as the node says, or as the guide of the other one
abbrev pub first_operand : Sort → Option Tau → Place → (Option Tau → Out Got) → Out Got
first_operand logic direction place x = x (Some types.bool)
first_operand arithmetic (Some t) place x = need T12 place (is_word t) (x (Some t))
first_operand sort direction place x = bind (x None) (λ u. need T12 place (takes sort u.ty) (Ok u))

abbrev pub unary_by : Sort → Op → Option Tau → Place → List Bool → Way → Out Got
unary_by sort o direction place before x = bind (first_operand sort direction place (λ way. x before way)) (λ u. one_end o sort direction place u)

abbrev pub by_left : Sort → Op → Option Tau → Place → List Bool → Way → Way → Out Got
by_left sort o direction place before l r =
    bind (first_operand sort direction place (λ way. l before way)) (λ x. bind (r (mark before x.uses) (right_direction sort direction x.ty)) (λ y.
    both_end o sort direction place x.ty x y))

abbrev pub by_right : Sort → Op → Option Tau → Place → List Bool → Way → Way → Out Got
by_right sort o direction place before l r =
    bind (first_operand sort direction place (λ way. r before way)) (λ y. bind (l before (guided_direction sort direction y.ty)) (λ x.
    both_end o sort direction place y.ty x y))

abbrev pub binary_by : Sort → Op → Option Tau → Place → Bool → List Bool → Way → Way → Out Got
binary_by sort o direction place literal before l r =
    cond (is_by_right sort direction literal) (by_right sort o direction place before l r) (by_left sort o direction place before l r)
