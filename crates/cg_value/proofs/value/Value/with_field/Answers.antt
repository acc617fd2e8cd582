use Rattle.cg_value.specs.Values.{value_of}
use Rattle.cg_value.proofs.FormSteps.{fields_are}
use Rattle.cg_value.proofs.value.Value.with_field.Goals as goal

pub returns-in-Fields : goal.returns-in-Fields
returns-in-Fields c =
    fields_are c.args.self c.in-Fields.fields c.as_mut_slice.result.now c.put_at.new.values c.args.at (value_of c.args.field) c.in-Fields.is c.as_mut_slice.ensures.value
    c.put_at.auto.values c.put_at.ensures
