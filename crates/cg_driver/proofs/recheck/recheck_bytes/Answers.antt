use Rattle.std.proofs.Common.{[], ◌∷◌, ◌∙◌, ap, Ok}
use Rattle.cg_driver_steps.proofs.Following.{rules_follow, rules_ended}
use Rattle.cg_driver.specs.Commands.{Judges, certified, text_rules, rechecked_line}
use Rattle.cg_driver.specs.Found.{functions}
use Rattle.cg_driver.proofs.Rechecking.{HasCert, text_judged}
use Rattle.cg_driver.proofs.recheck.recheck_bytes.Goals as goal

pub returns-in-Ok-Ends : goal.returns-in-Ok-Ends
returns-in-Ok-Ends c found same bytes =
    rules_ended Judges (HasCert found) rechecked_line (text_rules c.args.name.now) (certified c.args.name.now ∷ []) found c.certificate_in.result c.in-Ok-Ends.report
    (c.in-Ok-Ends.is ∙ ap Ok c.in-Ok-Ends.field-0-is) (text_judged c.args.name.now c.args.bytes.now found bytes c.certificate_in.result c.certificate_in.ensures)

pub returns-in-Ok-Goes : goal.returns-in-Ok-Goes
returns-in-Ok-Goes c found same bytes =
    rules_follow Judges (HasCert found) rechecked_line (text_rules c.args.name.now) (certified c.args.name.now ∷ []) found c.certificate_in.result c.in-Ok-Goes.cert c.recheck_cert.result
    (c.in-Ok-Goes.is ∙ ap Ok c.in-Ok-Goes.field-0-is) (text_judged c.args.name.now c.args.bytes.now found bytes c.certificate_in.result c.certificate_in.ensures)
    (λ next k. c.recheck_cert.ensures next (ap functions k.same ∙ same) (ap (λ f. f.cert) k.same))
