use Rattle.std.proofs.Common.{◌≡◌, [], ◌∷◌, ◌∙◌, ap, Ok}
use Rattle.cg_driver_steps.specs.Steps.{writes}
use Rattle.cg_driver_steps.specs.World.{world}
use Rattle.cg_driver_steps.proofs.Following.{write_leads, follows, ended, halted}
use Rattle.cg_driver.specs.Commands.{Judges, IsBuilt, writes_certificate}
use Rattle.cg_driver.specs.Found.{functions}
use Rattle.cg_driver.specs.Instanced.{emitted}
use Rattle.cg_driver.proofs.Building.{kept_on, text_is}
use Rattle.cg_driver.proofs.build.write_both.Goals as goal

pub returns-in-Err : goal.returns-in-Err
returns-in-Err g c list found made kept =
    halted Judges (λ (x : Unit) next. next ≡ found) IsBuilt (writes c.args.names.now.text.now (λ f. emitted f.copies) ∷ []) (writes_certificate c.args.names.now.certificate.now) found _ _ c.write_file.result c.in-Err.field-0 _ c.in-Err.is
    (write_leads Judges c.args.names.now.text.now _ (λ f. emitted f.copies) found _ _ c.write_file.result (text_is c.args.checked.now list found c.args.made.now made kept _ c.deref.ensures.value) c.write_file.ensures)

pub returns-in-Ok-Ends : goal.returns-in-Ok-Ends
returns-in-Ok-Ends g c list found made kept =
    ended Judges (λ (x : Unit) next. next ≡ found) IsBuilt (writes c.args.names.now.text.now (λ f. emitted f.copies) ∷ []) (writes_certificate c.args.names.now.certificate.now) found _ _ c.write_file.result c.in-Ok-Ends.report (c.in-Ok-Ends.is ∙ ap Ok c.in-Ok-Ends.field-0-is)
    (write_leads Judges c.args.names.now.text.now _ (λ f. emitted f.copies) found _ _ c.write_file.result (text_is c.args.checked.now list found c.args.made.now made kept _ c.deref.ensures.value) c.write_file.ensures)

pub returns-in-Ok-Goes : goal.returns-in-Ok-Goes
returns-in-Ok-Goes g c list found made kept =
    follows Judges (λ (x : Unit) next. next ≡ found) IsBuilt (writes c.args.names.now.text.now (λ f. emitted f.copies) ∷ []) (writes_certificate c.args.names.now.certificate.now) found _
    (world (g.F.Files.held c.write_file.new.files) (g.F.Files.failed_reads c.write_file.new.files) (g.F.Files.failed_writes c.write_file.new.files))
    (world (g.F.Files.held c.write_certificate.new.files) (g.F.Files.failed_reads c.write_certificate.new.files) (g.F.Files.failed_writes c.write_certificate.new.files))
    c.write_file.result c.in-Ok-Goes.field-0-0 _ (c.in-Ok-Goes.is ∙ ap Ok c.in-Ok-Goes.field-0-is)
    (write_leads Judges c.args.names.now.text.now _ (λ f. emitted f.copies) found _ _ c.write_file.result (text_is c.args.checked.now list found c.args.made.now made kept _ c.deref.ensures.value) c.write_file.ensures)
    (λ next is. c.write_certificate.ensures list next made (kept_on (ap functions is) (ap (λ f. f.copies) is) kept))
