use Rattle.cg_core.specs.Kernels.{the_term}
use Rattle.cg_surface.specs.Patterns.{pattern_of}
use Rattle.cg_resolve_binders.proofs.ChoiceSteps.{payload_deep}
use Rattle.cg_resolve_binders.proofs.choices.bind_payload.Goals as goal

pub returns-then-not-has_two : goal.returns-then-not-has_two
returns-then-not-has_two c =
    payload_deep c.args.site.now c.args.place c.args.place (pattern_of c.args.pattern.now) (record { place = c.args.place; name = c.args.name.now }) (the_term c.args.subject)
    c.level.result c.under.result c.level.ensures c.under.ensures.value c.if-not-has_two.ensures
