use Rattle.std.proofs.Common.{◌≡◌, [], ◌∷◌, ◌∙◌, ap, sym, Ok, Vec, ℕ, Global}
use Rattle.cg_driver_steps.specs.Steps.{judged_first}
use Rattle.cg_driver_steps.specs.World.{world}
use Rattle.cg_driver_steps.proofs.Following.{read_leads, follows, ended, halted, rules_conclude}
use Rattle.cg_driver.specs.Commands.{Judges, certificate_rules, reads_certificate, rechecked_line}
use Rattle.cg_driver.specs.Found.{with_certificate, functions, certificate_limit}
use Rattle.cg_driver.proofs.recheck.recheck_kernel.Goals as goal

pub returns-in-Err : goal.returns-in-Err
returns-in-Err g c found same = halted Judges (λ (b : Vec ℕ Global) next. next ≡ with_certificate b.items found) rechecked_line (reads_certificate c.args.name.now ∷ []) (judged_first (certificate_rules c.args.name.now) []) found _ _ c.read_file.result c.in-Err.field-0 _ c.in-Err.is (read_leads Judges c.args.name.now certificate_limit with_certificate found _ _ c.read_file.result c.read_file.ensures)

pub returns-in-Ok-Ends : goal.returns-in-Ok-Ends
returns-in-Ok-Ends g c found same = ended Judges (λ (b : Vec ℕ Global) next. next ≡ with_certificate b.items found) rechecked_line (reads_certificate c.args.name.now ∷ []) (judged_first (certificate_rules c.args.name.now) []) found _ _ c.read_file.result c.in-Ok-Ends.report (c.in-Ok-Ends.is ∙ ap Ok c.in-Ok-Ends.field-0-is) (read_leads Judges c.args.name.now certificate_limit with_certificate found _ _ c.read_file.result c.read_file.ensures)

pub returns-in-Ok-Goes : goal.returns-in-Ok-Goes
returns-in-Ok-Goes g c found same =
    follows Judges (λ (b : Vec ℕ Global) next. next ≡ with_certificate b.items found) rechecked_line (reads_certificate c.args.name.now ∷ []) (judged_first (certificate_rules c.args.name.now) []) found _ (world (g.F.Files.held c.read_file.new.files) (g.F.Files.failed_reads c.read_file.new.files) (g.F.Files.failed_writes c.read_file.new.files)) (world (g.F.Files.held c.read_file.new.files) (g.F.Files.failed_reads c.read_file.new.files) (g.F.Files.failed_writes c.read_file.new.files)) c.read_file.result c.in-Ok-Goes.bytes _
    (c.in-Ok-Goes.is ∙ ap Ok c.in-Ok-Goes.field-0-is) (read_leads Judges c.args.name.now certificate_limit with_certificate found _ _ c.read_file.result c.read_file.ensures)
    (λ next is. rules_conclude Judges rechecked_line (certificate_rules c.args.name.now) next _ _ (c.recheck_bytes.ensures next (ap functions is ∙ same) (ap (λ f. f.certificate) is ∙ sym c.deref.ensures.value)))
