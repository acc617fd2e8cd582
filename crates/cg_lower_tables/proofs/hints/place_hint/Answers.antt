use Rattle.std.proofs.Common.{◌∙◌}
use Rattle.cg_lower_tables.proofs.KeySteps.{lookup_same}
use Rattle.cg_lower_tables.proofs.hints.place_hint.Goals as goal

pub returns : goal.returns
returns c = c.copied.ensures ∙ c.get.ensures.value ∙ lookup_same c.args.key c.args.places.now.entries
