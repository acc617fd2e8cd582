use Rattle.cg_driver_steps.specs.declared.status.Status.TheVariants.{TooLarge}
use Rattle.cg_driver.specs.Built.{RefusesInstances}
use Rattle.cg_driver.specs.Judged.{functions_in}
use Rattle.cg_driver_lines.specs.Lines.{limit_line}
use Rattle.cg_driver.proofs.Building.{instances_refused}
use Rattle.cg_driver.proofs.Saying.{line_says}
use Rattle.cg_driver.proofs.build.listed.Goals as goal

pub returns-in_ok-beyond-in-Err-Limit : goal.returns-in_ok-beyond-in-Err-Limit
returns-in_ok-beyond-in-Err-Limit c =
    line_says (RefusesInstances (functions_in c.args.checked.now)) TooLarge (limit_line c.limit_name.result.now) c.in_ok-beyond-in-Err-Limit.field-0 c.in_ok-beyond-in-Err-Limit.ensures
    (instances_refused c.args.checked.now c.requires.cores c.in-Err-Limit.limit c.limit_name.result.now c.limit_name.ensures (rw c.in-Err-Limit.field-0-is at c.in-Err-Limit.ensures))
