use Rattle.std.proofs.Common.{◌≡◌, [], ◌∷◌, ◌∙◌, ap, sym, Ok, Vec, ℕ, Global}
use Rattle.cg_driver_steps.specs.World.{world}
use Rattle.cg_driver_steps.proofs.Following.{read_leads, follows, ended, halted}
use Rattle.cg_driver.specs.Commands.{Judges, run_steps, reads_source, ran_lines}
use Rattle.cg_driver.specs.Externs.{no_extern}
use Rattle.cg_driver.specs.Found.{nothing, with_source, source_limit}
use Rattle.cg_driver.proofs.run.run_file.Goals as goal

pub returns-in-Err : goal.returns-in-Err
returns-in-Err g c = halted Judges (λ (b : Vec ℕ Global) next. next ≡ with_source b.items nothing) (ran_lines no_extern) (reads_source c.args.asked.now.file.now ∷ []) (run_steps no_extern c.args.asked.now.file.now c.args.asked.now.entry.now c.args.asked.now.heap.now c.args.asked.now.steps) nothing _ _ c.read_file.result c.in-Err.field-0 _ c.in-Err.is (read_leads Judges c.args.asked.now.file.now source_limit with_source nothing _ _ c.read_file.result c.read_file.ensures)

pub returns-in-Ok-Ends : goal.returns-in-Ok-Ends
returns-in-Ok-Ends g c = ended Judges (λ (b : Vec ℕ Global) next. next ≡ with_source b.items nothing) (ran_lines no_extern) (reads_source c.args.asked.now.file.now ∷ []) (run_steps no_extern c.args.asked.now.file.now c.args.asked.now.entry.now c.args.asked.now.heap.now c.args.asked.now.steps) nothing _ _ c.read_file.result c.in-Ok-Ends.report (c.in-Ok-Ends.is ∙ ap Ok c.in-Ok-Ends.field-0-is) (read_leads Judges c.args.asked.now.file.now source_limit with_source nothing _ _ c.read_file.result c.read_file.ensures)

pub returns-in-Ok-Goes : goal.returns-in-Ok-Goes
returns-in-Ok-Goes g c =
    follows Judges (λ (b : Vec ℕ Global) next. next ≡ with_source b.items nothing) (ran_lines no_extern) (reads_source c.args.asked.now.file.now ∷ []) (run_steps no_extern c.args.asked.now.file.now c.args.asked.now.entry.now c.args.asked.now.heap.now c.args.asked.now.steps) nothing _ (world (g.F.Files.held c.read_file.new.files) (g.F.Files.failed_reads c.read_file.new.files) (g.F.Files.failed_writes c.read_file.new.files)) (world (g.F.Files.held c.run_source.new.files) (g.F.Files.failed_reads c.run_source.new.files) (g.F.Files.failed_writes c.run_source.new.files)) c.read_file.result c.in-Ok-Goes.source _
    (c.in-Ok-Goes.is ∙ ap Ok c.in-Ok-Goes.field-0-is) (read_leads Judges c.args.asked.now.file.now source_limit with_source nothing _ _ c.read_file.result c.read_file.ensures)
    (λ next is. c.run_source.ensures next (ap (λ f. f.source) is ∙ sym c.deref.ensures.value))
