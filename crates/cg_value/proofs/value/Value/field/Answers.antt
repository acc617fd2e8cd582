use Rattle.std.proofs.Common.{◌∙◌}
use Rattle.std.specs.Option.{option_copied}
use Rattle.cg_value.proofs.FormSteps.{at_place, field_is}
use Rattle.cg_value.proofs.value.Value.field.Goals as goal

pub returns-in-Fields : goal.returns-in-Fields
returns-in-Fields c = at_place c.in-Fields.fields c.args.at (option_copied c.get.result) c.get.ensures.value ∙ field_is c.args.self.now c.in-Fields.fields c.args.at c.in-Fields.is
