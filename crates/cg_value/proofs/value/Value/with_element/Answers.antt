use Rattle.cg_value.proofs.FormSteps.{elements_are}
use Rattle.cg_value.proofs.value.Value.with_element.Goals as goal

pub returns-in-Array : goal.returns-in-Array
returns-in-Array c =
    elements_are c.args.self c.in-Array.elements c.as_mut_slice.result.now c.set_at.new.numbers c.args.at c.args.number c.in-Array.is c.as_mut_slice.ensures.value
    c.set_at.auto.numbers c.set_at.ensures
