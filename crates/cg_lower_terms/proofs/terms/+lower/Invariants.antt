use Rattle.std.proofs.Common.{◌+◌, ◌*◌, map, max, take}
use denote.Param.Weighed.{most}
use Rattle.cg_core.specs.declared.term.FieldTerm.{size-FieldTerm}
use Rattle.cg_core.specs.declared.term.Term.{size-Term}
use Rattle.cg_core.specs.declared.term.Typed.{Typed}
use Rattle.cg_core.specs.Kernels.{the_core_field}
use Rattle.cg_core.specs.Terms.{to_named}
use Rattle.cg_lower_terms.specs.Forms.{AfterFields, low_record}
use Rattle.cg_lower_terms.proofs.terms.+lower.Given as goal

abbrev pub invariant-lower_fields-loop-field : goal.invariant-lower_fields-loop-field
invariant-lower_fields-loop-field l = AfterFields l.fn.state l.state l.values (low_record l.fn.state (to_named (map the_core_field (take l.field-index l.field-items))))

-- ---- what gets less: the size of what is gone down, and then how many calls are left before the next term

abbrev pub decreases-lower_term : goal.decreases-lower_term
decreases-lower_term l = 4 * (size-Term Typed l.term.now) + 1

abbrev pub decreases-lower_data : goal.decreases-lower_data
decreases-lower_data l = 4 * (size-Term Typed l.term.now)

abbrev pub decreases-lower_within : goal.decreases-lower_within
decreases-lower_within l = 4 * (size-Term Typed l.body.now) + 2

abbrev pub decreases-lower_let : goal.decreases-lower_let
decreases-lower_let l = 4 * (max (size-Term Typed l.value.now) (size-Term Typed l.body.now)) + 3

abbrev pub decreases-lower_con : goal.decreases-lower_con
decreases-lower_con l = 4 * (size-Term Typed l.value.now) + 2

abbrev pub decreases-lower_esac : goal.decreases-lower_esac
decreases-lower_esac l = 4 * (size-Term Typed l.subject.now) + 2

abbrev pub decreases-lower_op : goal.decreases-lower_op
decreases-lower_op l = 4 * (most (size-Term Typed) l.operands.now) + 3

abbrev pub decreases-lower_one : goal.decreases-lower_one
decreases-lower_one l = 4 * (size-Term Typed l.operand.now) + 2

abbrev pub decreases-lower_two : goal.decreases-lower_two
decreases-lower_two l = 4 * (max (size-Term Typed l.left.now) (size-Term Typed l.right.now)) + 2

abbrev pub decreases-lower_app : goal.decreases-lower_app
decreases-lower_app l = 4 * (max (size-Term Typed l.function.now) (size-Term Typed l.argument.now)) + 2

abbrev pub decreases-lower_arm : goal.decreases-lower_arm
decreases-lower_arm l = 4 * (size-Term Typed l.term.now) + 2

abbrev pub decreases-lower_if : goal.decreases-lower_if
decreases-lower_if l = 4 * (max (size-Term Typed l.test.now) (max (size-Term Typed l.yes.now) (size-Term Typed l.no.now))) + 3

abbrev pub decreases-lower_arm_within : goal.decreases-lower_arm_within
decreases-lower_arm_within l = 4 * (size-Term Typed l.term.now) + 3

abbrev pub decreases-lower_arms : goal.decreases-lower_arms
decreases-lower_arms l = 4 * (max (size-Term Typed l.first.now) (size-Term Typed l.rest.now)) + 4

abbrev pub decreases-lower_case : goal.decreases-lower_case
decreases-lower_case l = 4 * (max (size-Term Typed l.subject.now) (max (size-Term Typed l.first.now) (size-Term Typed l.rest.now))) + 5

abbrev pub decreases-lower_fields : goal.decreases-lower_fields
decreases-lower_fields l = 4 * (most (size-FieldTerm Typed) l.fields.now) + 2

abbrev pub decreases-lower_struct : goal.decreases-lower_struct
decreases-lower_struct l = 4 * (most (size-FieldTerm Typed) l.fields.now) + 3

abbrev pub decreases-lower_member : goal.decreases-lower_member
decreases-lower_member l = 4 * (size-Term Typed l.whole.now) + 2

abbrev pub decreases-lower_take : goal.decreases-lower_take
decreases-lower_take l = 4 * (max (size-Term Typed l.whole.now) (size-Term Typed l.body.now)) + 3

abbrev pub decreases-lower_put : goal.decreases-lower_put
decreases-lower_put l = 4 * (max (size-Term Typed l.whole.now) (size-Term Typed l.value.now)) + 2

abbrev pub decreases-lower_cast : goal.decreases-lower_cast
decreases-lower_cast l = 4 * (size-Term Typed l.operand.now) + 2
