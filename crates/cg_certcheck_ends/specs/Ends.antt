-- The ends of nodes behind their parts: the rows that are left there, and what the node comes to.
use Rattle.std.specs.Prelude.{ℕ, false, Option, Some, None, List, Ok}
use Rattle.cg_base.specs.declared.kind.Kinds.{Kinds}
use Rattle.cg_base.specs.declared.place.Place.{Place}
use Rattle.cg_base.specs.Types as types
use Rattle.cg_base.specs.Types.{Tau}
use Rattle.cg_certcheck_def.specs.Events.{meets}
use Rattle.cg_certcheck_def.specs.Pass.{Cursor, Got, Out, bind, operated, operated_both, row}
use Rattle.cg_certcheck_gots.specs.Held.{last_held, literal_judged, member_held}
use Rattle.cg_certcheck_nodes.specs.Nodes.{app_node, esac_node, member_node, put_node, cast_node, annot_node}
use Rattle.cg_core.specs.declared.at.At.{At}
use Rattle.cg_core.specs.declared.derivation.Mark.{Mark}
use Rattle.cg_core.specs.declared.op.Op.{Op}
use Rattle.cg_core.specs.Terms.{Arg}
use Rattle.cg_typing.specs.Operators.{Sort, arithmetic}
use Rattle.cg_typing.specs.Parts.{given_by, widens, with_part}

-- ---- operators

-- the type of the operator
abbrev pub operator_type : Sort → Option Tau → ℕ → Tau → Out Tau
operator_type arithmetic (Some wanted) n t = Ok wanted
operator_type arithmetic None n t = Ok t
operator_type sort direction n t = row n (meets direction types.bool) (Ok types.bool)

abbrev pub one_end : Op → Sort → Option Tau → ℕ → Place → Got → Out Got
one_end o sort direction n place u = bind (operator_type sort direction n u.ty) (λ t. Ok (operated o place t u))

-- of two, of which the first one that was checked has this type
abbrev pub both_end : List Mark → Op → Sort → Option Tau → ℕ → Place → Tau → Got → Got → Out Got
both_end m o sort direction n place first x y = bind (operator_type sort direction n first) (λ t. Ok (operated_both m o place t x y y.at))

-- of two, of which the left one is a literal with this note and value, which was reached before the right one
abbrev pub literal_end : List Mark → Op → Sort → Option Tau → ℕ → Place → Place → Option ℕ → ℕ → Cursor → Got → Out Got
literal_end m o sort direction n place note value number behind y =
    bind (literal_judged note value y.ty number behind) (λ x. both_end m o sort direction n place y.ty x y)

-- ---- the other forms

abbrev pub app_end : List Mark → Option Tau → ℕ → Place → Got → Got → Out Got
app_end m d n place u v = row n (meets d (given_by u.ty)) (Ok (app_node m place (given_by u.ty) u v))

abbrev pub esac_end : Option Tau → ℕ → Place → At → Got → Out Got
esac_end d n place alternative u = bind (last_held n d alternative.name u.ty) (λ h. Ok (esac_node place h alternative u))

abbrev pub member_end : List Kinds → Option Tau → ℕ → Place → At → Got → Out Got
member_end vars d n place name u = bind (member_held vars n d name.name u.ty) (λ h. Ok (member_node place h name u))

abbrev pub put_end : List Mark → Option Tau → ℕ → Place → At → Got → Got → Out Got
put_end m d n place name u v = row n (meets d (with_part name.name false u.ty)) (Ok (put_node m place (with_part name.name false u.ty) name u v))

abbrev pub cast_end : Tau → ℕ → Place → Got → Out Got
cast_end t n place u = row n (widens u.ty t) (Ok (cast_node place t u))

abbrev pub annot_end : Option Tau → ℕ → Place → Arg → Got → Out Got
annot_end d n place a u = row n (meets d a.ty) (Ok (annot_node place a u))
