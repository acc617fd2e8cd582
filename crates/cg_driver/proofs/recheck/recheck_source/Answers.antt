use Rattle.std.proofs.Common.{◌∙◌, ap, Ok}
use Rattle.cg_driver_steps.proofs.Following.{judged_follows, judged_ended, judged_halted}
use Rattle.cg_driver.specs.Commands.{Judges, reading_rules, certificate_steps, recheck_steps, rechecked_line}
use Rattle.cg_driver.specs.Judged.{KeepsKernel}
use Rattle.cg_driver.proofs.Rechecking.{reading_judged}
use Rattle.cg_driver.proofs.recheck.recheck_source.Goals as goal

pub returns-in-Err : goal.returns-in-Err
returns-in-Err g c found same = judged_halted Judges rechecked_line (recheck_steps c.args.file.now c.args.name.now) found _ _

pub returns-in-Ok-Ends : goal.returns-in-Ok-Ends
returns-in-Ok-Ends g c found same =
    judged_ended Judges KeepsKernel rechecked_line (reading_rules c.args.file.now) (certificate_steps c.args.name.now)
    found _ c.read_source.result c.in-Ok-Ends.report (c.in-Ok-Ends.is ∙ ap Ok c.in-Ok-Ends.field-0-is)
    (reading_judged c.args.file.now c.args.source.now found same c.read_source.result c.read_source.ensures)

pub returns-in-Ok-Goes : goal.returns-in-Ok-Goes
returns-in-Ok-Goes g c found same =
    judged_follows Judges KeepsKernel rechecked_line (reading_rules c.args.file.now) (certificate_steps c.args.name.now)
    found _ _ c.read_source.result c.in-Ok-Goes.kernel c.recheck_kernel.result (c.in-Ok-Goes.is ∙ ap Ok c.in-Ok-Goes.field-0-is)
    (reading_judged c.args.file.now c.args.source.now found same c.read_source.result c.read_source.ensures)
    (λ next kept. c.recheck_kernel.ensures next kept.same)
