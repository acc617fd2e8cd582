use Rattle.std.proofs.Common.{◌≡◌, ◌+◌, ◌*◌, max, map, take}
use Rattle.cg_core.specs.declared.term.Term.{size-Term}
use Rattle.cg_core.specs.declared.term.FieldTerm.{size-FieldTerm}
use Rattle.cg_mono.specs.Fields.{subst_field}
use Rattle.cg_typing.specs.Subst.{subst_core}
use Rattle.cg_base.specs.Types.{type_of}
use Rattle.cg_core.specs.Kernels.{the_core, the_core_field}
use Rattle.cg_core.specs.declared.term.Typed.{Typed}
use denote.Param.Weighed.{most}
use Rattle.cg_mono.proofs.cores.+specialise.Given as goal

abbrev pub invariant-in_terms-loop-term : goal.invariant-in_terms-loop-term
invariant-in_terms-loop-term l = map the_core l.made ≡ map (subst_core (map type_of l.types)) (map the_core (take l.term-index l.term-items))

abbrev pub invariant-in_fields-loop-field : goal.invariant-in_fields-loop-field
invariant-in_fields-loop-field l = map the_core_field l.made ≡ map (subst_field (map type_of l.types)) (map the_core_field (take l.field-index l.field-items))

-- ---- what gets less: the size of what is gone down, and then how many calls are left before the next term

abbrev pub decreases-specialise : goal.decreases-specialise
decreases-specialise l = 5 * (size-Term Typed l.core.now) + 1

abbrev pub decreases-in_data : goal.decreases-in_data
decreases-in_data l = 5 * (size-Term Typed l.core.now)

abbrev pub decreases-in_boxed : goal.decreases-in_boxed
decreases-in_boxed l = 5 * (size-Term Typed l.core.now) + 2

abbrev pub decreases-in_two : goal.decreases-in_two
decreases-in_two l = 5 * (max (size-Term Typed l.first.now) (size-Term Typed l.second.now)) + 3

abbrev pub decreases-in_three : goal.decreases-in_three
decreases-in_three l = 5 * (max (size-Term Typed l.first.now) (max (size-Term Typed l.second.now) (size-Term Typed l.third.now))) + 4

abbrev pub decreases-in_terms : goal.decreases-in_terms
decreases-in_terms l = 5 * (most (size-Term Typed) l.terms.now) + 2

abbrev pub decreases-in_fields : goal.decreases-in_fields
decreases-in_fields l = 5 * (most (size-FieldTerm Typed) l.fields.now) + 2
