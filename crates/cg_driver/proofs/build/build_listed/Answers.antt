use Rattle.std.proofs.Common.{◌∙◌, [], ◌∷◌, ap, Ok}
use Rattle.cg_driver_steps.specs.Steps.{judged_first}
use Rattle.cg_driver_steps.proofs.Following.{judged_follows, judged_ended, judged_halted}
use Rattle.cg_driver.specs.Commands.{Judges, IsBuilt, certifiable, writes_both}
use Rattle.cg_driver.proofs.Building.{KeepsBuilt, made_judged}
use Rattle.cg_driver.proofs.build.build_listed.Goals as goal

pub returns-in-Err : goal.returns-in-Err
returns-in-Err g c found kept = judged_halted Judges IsBuilt (judged_first (certifiable ∷ []) (writes_both c.args.names.now.text.now c.args.names.now.certificate.now)) found _ _

pub returns-in-Ok-Ends : goal.returns-in-Ok-Ends
returns-in-Ok-Ends g c found kept =
    judged_ended Judges (KeepsBuilt c.args.checked.now c.args.list.now found) IsBuilt (certifiable ∷ []) (writes_both c.args.names.now.text.now c.args.names.now.certificate.now)
    found _ c.make.result c.in-Ok-Ends.report (c.in-Ok-Ends.is ∙ ap Ok c.in-Ok-Ends.field-0-is)
    (made_judged c.args.checked.now c.args.list.now found kept c.make.result c.make.ensures)

pub returns-in-Ok-Goes : goal.returns-in-Ok-Goes
returns-in-Ok-Goes g c found kept =
    judged_follows Judges (KeepsBuilt c.args.checked.now c.args.list.now found) IsBuilt (certifiable ∷ []) (writes_both c.args.names.now.text.now c.args.names.now.certificate.now)
    found _ _ c.make.result c.in-Ok-Goes.made c.write_both.result (c.in-Ok-Goes.is ∙ ap Ok c.in-Ok-Goes.field-0-is)
    (made_judged c.args.checked.now c.args.list.now found kept c.make.result c.make.ensures)
    (λ next k. c.write_both.ensures c.args.list.now next k.is k.kept)
