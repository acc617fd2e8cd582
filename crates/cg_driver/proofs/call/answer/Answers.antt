use Rattle.cg_driver_steps.proofs.Topping.{prints}
use Rattle.cg_driver.specs.Commands.{Judges}
use Rattle.cg_driver.proofs.call.answer.Goals as goal

pub returns-in-Ok : goal.returns-in-Ok
returns-in-Ok g c = prints Judges _ _ _ _ _ _ _ _ _ _ c.in-Ok.ensures c.print_report.ensures
