use Rattle.std.proofs.Common.{[], ◌∙◌, ap, Ok}
use Rattle.cg_driver_steps.proofs.Following.{rules_follow, rules_ended}
use Rattle.cg_driver.specs.Commands.{Judges, source_rules, checked_line}
use Rattle.cg_driver.specs.Judged.{Keeps}
use Rattle.cg_driver.proofs.Checking.{ok_rules}
use Rattle.cg_driver.proofs.Saying.{source_judged}
use Rattle.cg_driver.proofs.check.check_source.Goals as goal

pub returns-in-Ok-Ends : goal.returns-in-Ok-Ends
returns-in-Ok-Ends c found same =
    rules_ended Judges Keeps checked_line (source_rules c.args.file.now) [] found c.judge.result c.in-Ok-Ends.report (c.in-Ok-Ends.is ∙ ap Ok c.in-Ok-Ends.field-0-is)
    (source_judged c.args.file.now c.args.source.now found same c.judge.result c.judge.ensures)

pub returns-in-Ok-Goes : goal.returns-in-Ok-Goes
returns-in-Ok-Goes c found same =
    rules_follow Judges Keeps checked_line (source_rules c.args.file.now) [] found c.judge.result c.in-Ok-Goes.checked _ (c.in-Ok-Goes.is ∙ ap Ok c.in-Ok-Goes.field-0-is)
    (source_judged c.args.file.now c.args.source.now found same c.judge.result c.judge.ensures)
    (λ next kept. ok_rules c.in-Ok-Goes.checked _ _ next kept c.kernel.ensures c.as_slice.ensures _ c.accepted.ensures)
