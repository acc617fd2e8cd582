use Rattle.std.proofs.Common.{rules}
use Rattle.cg_surface.specs.declared.pattern.Pat.{the_lemmas}
use Rattle.cg_resolve_binders.proofs.BinderSteps.{tuple_room, fields_room, take_room, tuple_binds, fields_binds, take_binds}
use Rattle.cg_resolve_binders.proofs.binders.+bind.Goals as goal

pub bound_to-bind_tuple-requires : goal.bound_to-bind_tuple-requires
bound_to-bind_tuple-requires t c = (
  search (rules, the_lemmas),
  (c.requires.fits, tuple_room c.args.pattern.now c.in-Tuple.items _ _ c.in-Tuple.is c.requires.value),
)

pub bound_to-bind_fields-requires : goal.bound_to-bind_fields-requires
bound_to-bind_fields-requires t c = (
  search (rules, the_lemmas),
  (c.requires.fits, fields_room c.args.pattern.now c.in-Fields.fields _ _ c.in-Fields.is c.requires.value),
)

pub bound_to-bind_remainder-requires : goal.bound_to-bind_remainder-requires
bound_to-bind_remainder-requires t c = (
  search (rules, the_lemmas),
  (c.requires.fits, take_room c.args.pattern.now c.in-Take.name c.in-Take.fields _ _ c.in-Take.is c.requires.value),
)

pub bound_to-returns-in-Tuple : goal.bound_to-returns-in-Tuple
bound_to-returns-in-Tuple t c = tuple_binds c.args.site.now _ c.args.place c.args.pattern.now c.in-Tuple.items _ _ c.in-Tuple.is c.bind_tuple.ensures

pub bound_to-returns-in-Fields : goal.bound_to-returns-in-Fields
bound_to-returns-in-Fields t c = fields_binds c.args.site.now _ c.args.place c.args.pattern.now c.in-Fields.fields _ _ c.in-Fields.is c.bind_fields.ensures

pub bound_to-returns-in-Take : goal.bound_to-returns-in-Take
bound_to-returns-in-Take t c =
    take_binds c.args.site.now _ c.args.place c.args.pattern.now c.in-Take.name c.in-Take.fields _ _ c.in-Take.is (rw (← c.bytes-in-Take.ensures) c.bind_remainder.ensures)
