-- The ends of nodes behind their parts: the tests that are left there, and the node.
use Rattle.std.specs.Prelude.{false, Option, Some, None, List, length, Ok}
use Rattle.cg_base.specs.declared.kind.Kinds.{Kinds}
use Rattle.cg_base.specs.declared.kind.Sigil.TheVariants.{U}
use Rattle.cg_base.specs.declared.place.Place.{Place}
use Rattle.cg_base.specs.Types as types
use Rattle.cg_base.specs.Types.{Tau, fields}
use Rattle.cg_check_def.specs.Pass.{Out, Got, bind, need, meet, branches_test, operated, operated_both}
use Rattle.cg_check_nodes.specs.Nodes as forms
use Rattle.cg_check_nodes.specs.Scopes.{fine}
use Rattle.cg_check_uses.specs.Uses.{front}
use Rattle.cg_core.specs.declared.at.At.{At}
use Rattle.cg_core.specs.declared.op.Op.{Op}
use Rattle.cg_core.specs.Kernels.{Function}
use Rattle.cg_faults.specs.declared.rule.Rule.TheVariants.{K6, T5, T6, T8, T9, T10}
use Rattle.cg_typing.specs.Contexts.{shares}
use Rattle.cg_typing.specs.Operators.{Sort, arithmetic}
use Rattle.cg_typing.specs.Parts.{field_in, alternative_in, held, is_there, is_last, is_left, with_part}

-- ---- operators

-- the type of the operator
abbrev pub operator_type : Sort → Option Tau → Place → Tau → Out Tau
operator_type arithmetic (Some wanted) place t = Ok wanted
operator_type arithmetic None place t = Ok t
operator_type sort direction place t = meet direction place types.bool (Ok types.bool)

abbrev pub one_end : Op → Sort → Option Tau → Place → Got → Out Got
one_end o sort direction place u = bind (operator_type sort direction place u.ty) (λ t. Ok (operated o place t u))

-- of two, of which the first one that was checked has this type
abbrev pub both_end : Op → Sort → Option Tau → Place → Tau → Got → Got → Out Got
both_end o sort direction place first x y = bind (operator_type sort direction place first) (λ t. Ok (operated_both o place t x y))

-- ---- the other forms

-- what a part holds that is named, after the tests on it
abbrev pub last_held : At → Tau → Out Tau
last_held at t =
    need T8 at.place (is_there (alternative_in at.name t)) (need T10 at.place (is_left (alternative_in at.name t))
    (need T9 at.place (is_last at.name t) (Ok (held (alternative_in at.name t)))))

abbrev pub member_held : List Kinds → At → Tau → Out Tau
member_held vars at t =
    need T5 at.place (is_there (field_in at.name t)) (need T6 at.place (is_left (field_in at.name t))
    (need K6 at.place (shares vars t) (Ok (held (field_in at.name t)))))

-- the end of a match on the last alternative, of a member and of a put, behind their parts
abbrev pub esac_end : Option Tau → Place → At → Got → Out Got
esac_end direction place at u = bind (last_held at u.ty) (λ h. bind (meet direction place h fine) (λ _. Ok (forms.esac_node place h at u)))

abbrev pub member_end : List Kinds → Option Tau → Place → At → Got → Out Got
member_end vars direction place at u = bind (member_held vars at u.ty) (λ h. bind (meet direction place h fine) (λ _. Ok (forms.member_node place h at u)))

abbrev pub put_end : Option Tau → Place → At → Got → Got → Out Got
put_end direction place at u v =
    bind (meet direction place (with_part at.name false u.ty) fine) (λ _. Ok (forms.put_node place (with_part at.name false u.ty) at u v))

-- the type of a record: the one that is checked against, or the one that its fields make
abbrev pub record_type : Option Tau → types.Parts → Tau
record_type None ps = fields ps U
record_type (Some t) ps = t

module _ (functions : List Function) (vars : List Kinds) where
  -- the end of a conditional, whose branches have these notes
  abbrev pub if_end : List Tau → Place → Place → Place → Got → Got → Got → Out Got
  if_end p place first second u v w = bind (branches_test functions vars first second p v.uses w.uses fine) (λ _. Ok (forms.if_node place u v w))

  -- the end of a match, whose branches have these notes
  abbrev pub case_end : List Tau → Place → At → Place → Place → Place → Got → Got → Got → Out Got
  case_end p place at binder first second u v w =
      bind (branches_test functions vars first second p (front v.uses) (front w.uses) fine) (λ _. Ok (forms.case_node (length p) place at binder u v w))
