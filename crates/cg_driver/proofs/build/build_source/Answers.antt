use Rattle.std.proofs.Common.{◌∙◌, [], ◌∷◌, ap, Ok}
use Rattle.cg_driver_steps.specs.Steps.{judged_first}
use Rattle.cg_driver_steps.proofs.Following.{judged_follows, judged_ended, judged_halted}
use Rattle.cg_driver.specs.Commands.{Judges, build_steps, IsBuilt, certifiable, instanced, source_rules, writes_both}
use Rattle.cg_driver.specs.Judged.{Keeps}
use Rattle.cg_driver.proofs.Saying.{source_judged}
use Rattle.cg_driver.proofs.build.build_source.Goals as goal

pub returns-in-Err : goal.returns-in-Err
returns-in-Err g c found same = judged_halted Judges IsBuilt (build_steps c.args.names.now.file.now c.args.names.now.text.now c.args.names.now.certificate.now) found _ _

pub returns-in-Ok-Ends : goal.returns-in-Ok-Ends
returns-in-Ok-Ends g c found same =
    judged_ended Judges Keeps IsBuilt (source_rules c.args.names.now.file.now)
    (judged_first (instanced ∷ certifiable ∷ []) (writes_both c.args.names.now.text.now c.args.names.now.certificate.now))
    found _ c.judge.result c.in-Ok-Ends.report (c.in-Ok-Ends.is ∙ ap Ok c.in-Ok-Ends.field-0-is)
    (source_judged c.args.names.now.file.now c.args.source.now found same c.judge.result c.judge.ensures)

pub returns-in-Ok-Goes : goal.returns-in-Ok-Goes
returns-in-Ok-Goes g c found same =
    judged_follows Judges Keeps IsBuilt (source_rules c.args.names.now.file.now)
    (judged_first (instanced ∷ certifiable ∷ []) (writes_both c.args.names.now.text.now c.args.names.now.certificate.now))
    found _ _ c.judge.result c.in-Ok-Goes.checked c.build_checked.result (c.in-Ok-Goes.is ∙ ap Ok c.in-Ok-Goes.field-0-is)
    (source_judged c.args.names.now.file.now c.args.source.now found same c.judge.result c.judge.ensures)
    (λ next kept. c.build_checked.ensures next kept.same)
