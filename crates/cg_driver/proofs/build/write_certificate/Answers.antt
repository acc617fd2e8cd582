use Rattle.std.proofs.Common.{◌≡◌, [], ◌∷◌, ◌∙◌, ap, Ok}
use Rattle.cg_driver_steps.specs.Steps.{writes}
use Rattle.cg_driver_steps.proofs.Following.{write_leads, follows, ended, halted, rules_conclude}
use Rattle.cg_driver.specs.Commands.{Judges, IsBuilt}
use Rattle.cg_driver.specs.Found.{functions}
use Rattle.cg_driver.specs.Instanced.{certified_text}
use Rattle.cg_driver.proofs.Building.{certificate_written, concluded, kept_on}
use Rattle.cg_driver.proofs.build.write_certificate.Goals as goal

pub returns-in-Err : goal.returns-in-Err
returns-in-Err g c list found made kept =
    halted Judges (λ (x : Unit) next. next ≡ found) IsBuilt (writes c.args.names.now.certificate.now (λ f. certified_text (functions f)) ∷ []) [] found _ _ c.write_file.result c.in-Err.field-0 _ c.in-Err.is
    (write_leads Judges c.args.names.now.certificate.now _ (λ f. certified_text (functions f)) found _ _ c.write_file.result (certificate_written c.args.checked.now list found c.args.made.now made kept _ c.deref.ensures.value) c.write_file.ensures)

pub returns-in-Ok-Ends : goal.returns-in-Ok-Ends
returns-in-Ok-Ends g c list found made kept =
    ended Judges (λ (x : Unit) next. next ≡ found) IsBuilt (writes c.args.names.now.certificate.now (λ f. certified_text (functions f)) ∷ []) [] found _ _ c.write_file.result c.in-Ok-Ends.report (c.in-Ok-Ends.is ∙ ap Ok c.in-Ok-Ends.field-0-is)
    (write_leads Judges c.args.names.now.certificate.now _ (λ f. certified_text (functions f)) found _ _ c.write_file.result (certificate_written c.args.checked.now list found c.args.made.now made kept _ c.deref.ensures.value) c.write_file.ensures)

pub returns-in-Ok-Goes : goal.returns-in-Ok-Goes
returns-in-Ok-Goes g c list found made kept =
    follows Judges (λ (x : Unit) next. next ≡ found) IsBuilt (writes c.args.names.now.certificate.now (λ f. certified_text (functions f)) ∷ []) [] found _ _ _
    c.write_file.result c.in-Ok-Goes.field-0-0 _ (c.in-Ok-Goes.is ∙ ap Ok c.in-Ok-Goes.field-0-is)
    (write_leads Judges c.args.names.now.certificate.now _ (λ f. certified_text (functions f)) found _ _ c.write_file.result (certificate_written c.args.checked.now list found c.args.made.now made kept _ c.deref.ensures.value) c.write_file.ensures)
    (λ next is.
    rules_conclude Judges IsBuilt [] next _ _
    (concluded c.args.checked.now list c.args.made.now next c.requires.ready made (kept_on (ap functions is) (ap (λ f. f.copies) is) kept) c.kernel.result.now c.as_slice.result.now c.kernel.ensures c.as_slice.ensures _ c.built.ensures))
