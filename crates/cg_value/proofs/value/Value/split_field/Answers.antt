use Rattle.cg_value.proofs.FormSteps.{rest_is}
use Rattle.cg_value.proofs.value.Value.split_field.Goals as goal

pub returns-in-Fields-clause-rest : goal.returns-in-Fields-clause-rest
returns-in-Fields-clause-rest c =
    rest_is c.args.self c.in-Fields.fields c.as_mut_slice.result.now c.take_at-field.new.values c.args.at c.in-Fields.is c.as_mut_slice.ensures.value
    c.take_at-field.auto.values c.take_at-field.ensures.left
