use Rattle.std.proofs.Common.{◌≡◌, ◌+◌, ◌*◌, max, map, take}
use Rattle.cg_core.specs.declared.term.Term.{size-Term}
use Rattle.cg_core.specs.declared.term.Form.{size-Form}
use Rattle.cg_core.specs.declared.term.FieldTerm.{size-FieldTerm}
use Rattle.cg_core.specs.Terms.{erased, erased_field}
use Rattle.cg_core.specs.Kernels.{the_term, the_field, the_core, the_core_field}
use Rattle.cg_core.specs.declared.term.Typed.{Typed}
use denote.Param.Weighed.{most}
use Rattle.cg_core.proofs.erasure.+erase.Given as goal

abbrev pub invariant-erase_terms-loop-term : goal.invariant-erase_terms-loop-term
invariant-erase_terms-loop-term l = map the_term l.made ≡ map erased (map the_core (take l.term-index l.term-items))

abbrev pub invariant-erase_fields-loop-field : goal.invariant-erase_fields-loop-field
invariant-erase_fields-loop-field l = map the_field l.made ≡ map erased_field (map the_core_field (take l.field-index l.field-items))

-- ---- what gets less: the size of what is gone down, and then how many calls are left before the next term

abbrev pub decreases-erase : goal.decreases-erase
decreases-erase l = 4 * (size-Term Typed l.core.now)

abbrev pub decreases-erase_form : goal.decreases-erase_form
decreases-erase_form l = 4 * (size-Form Typed l.form.now)

abbrev pub decreases-erase_boxed : goal.decreases-erase_boxed
decreases-erase_boxed l = 4 * (size-Term Typed l.core.now) + 1

abbrev pub decreases-erase_two : goal.decreases-erase_two
decreases-erase_two l = 4 * (max (size-Term Typed l.first.now) (size-Term Typed l.second.now)) + 2

abbrev pub decreases-erase_named : goal.decreases-erase_named
decreases-erase_named l = 4 * (size-Term Typed l.term.now) + 2

abbrev pub decreases-erase_at : goal.decreases-erase_at
decreases-erase_at l = 4 * (size-Term Typed l.term.now) + 2

abbrev pub decreases-erase_typed : goal.decreases-erase_typed
decreases-erase_typed l = 4 * (size-Term Typed l.term.now) + 2

abbrev pub decreases-erase_let_bang : goal.decreases-erase_let_bang
decreases-erase_let_bang l = 4 * (max (size-Term Typed l.value.now) (size-Term Typed l.body.now)) + 3

abbrev pub decreases-erase_if : goal.decreases-erase_if
decreases-erase_if l = 4 * (max (size-Term Typed l.test.now) (max (size-Term Typed l.yes.now) (size-Term Typed l.no.now))) + 3

abbrev pub decreases-erase_case : goal.decreases-erase_case
decreases-erase_case l = 4 * (max (size-Term Typed l.subject.now) (max (size-Term Typed l.first.now) (size-Term Typed l.rest.now))) + 3

abbrev pub decreases-erase_take : goal.decreases-erase_take
decreases-erase_take l = 4 * (max (size-Term Typed l.whole.now) (size-Term Typed l.body.now)) + 3

abbrev pub decreases-erase_put : goal.decreases-erase_put
decreases-erase_put l = 4 * (max (size-Term Typed l.whole.now) (size-Term Typed l.value.now)) + 3

abbrev pub decreases-erase_terms : goal.decreases-erase_terms
decreases-erase_terms l = 4 * (most (size-Term Typed) l.terms.now) + 1

abbrev pub decreases-erase_fields : goal.decreases-erase_fields
decreases-erase_fields l = 4 * (most (size-FieldTerm Typed) l.fields.now) + 1
