use Rattle.std.proofs.Common.{◌∙◌, [], ◌∷◌, ap, Ok}
use Rattle.cg_driver_steps.specs.Steps.{judged_first}
use Rattle.cg_driver_steps.proofs.Following.{judged_follows, judged_ended, judged_halted}
use Rattle.cg_driver.specs.Commands.{Judges, IsBuilt, certifiable, instanced, writes_both}
use Rattle.cg_driver.proofs.Building.{IsListedIn, listed_judged}
use Rattle.cg_driver.proofs.build.build_checked.Goals as goal

pub returns-in-Err : goal.returns-in-Err
returns-in-Err g c found same = judged_halted Judges IsBuilt (judged_first (instanced ∷ certifiable ∷ []) (writes_both c.args.names.now.text.now c.args.names.now.certificate.now)) found _ _

pub returns-in-Ok-Ends : goal.returns-in-Ok-Ends
returns-in-Ok-Ends g c found same =
    judged_ended Judges (IsListedIn c.args.checked.now found) IsBuilt (instanced ∷ []) (judged_first (certifiable ∷ []) (writes_both c.args.names.now.text.now c.args.names.now.certificate.now))
    found _ c.listed.result c.in-Ok-Ends.report (c.in-Ok-Ends.is ∙ ap Ok c.in-Ok-Ends.field-0-is)
    (listed_judged c.args.checked.now c.requires.cores found same c.listed.result c.listed.ensures)

pub returns-in-Ok-Goes : goal.returns-in-Ok-Goes
returns-in-Ok-Goes g c found same =
    judged_follows Judges (IsListedIn c.args.checked.now found) IsBuilt (instanced ∷ []) (judged_first (certifiable ∷ []) (writes_both c.args.names.now.text.now c.args.names.now.certificate.now))
    found _ _ c.listed.result c.in-Ok-Goes.list c.build_listed.result (c.in-Ok-Goes.is ∙ ap Ok c.in-Ok-Goes.field-0-is)
    (listed_judged c.args.checked.now c.requires.cores found same c.listed.result c.listed.ensures)
    (λ next kept. c.build_listed.ensures next kept.kept)
