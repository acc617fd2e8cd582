use Rattle.std.proofs.Common.{◌≡◌, [], ◌∷◌, ◌∙◌, ap, sym, Ok, Vec, ℕ, Global}
use Rattle.cg_driver_steps.specs.Steps.{judged_first}
use Rattle.cg_driver_steps.specs.World.{world}
use Rattle.cg_driver_steps.proofs.Following.{read_leads, follows, ended, halted, rules_conclude}
use Rattle.cg_driver.specs.Commands.{Judges, run_rules, reads_heap, ran_lines}
use Rattle.cg_driver.specs.Externs.{no_extern}
use Rattle.cg_driver.specs.Found.{with_heap, functions, heap_limit}
use Rattle.cg_driver.proofs.Building.{kept_on}
use Rattle.cg_driver.proofs.run.run_ready.Goals as goal

pub returns-in-Err : goal.returns-in-Err
returns-in-Err g c found same there = halted Judges (λ (b : Vec ℕ Global) next. next ≡ with_heap b.items found) (ran_lines no_extern) (reads_heap c.args.asked.now.heap.now ∷ []) (judged_first (run_rules no_extern c.args.asked.now.heap.now c.args.asked.now.steps) []) found _ _ c.read_file.result c.in-Err.field-0 _ c.in-Err.is (read_leads Judges c.args.asked.now.heap.now heap_limit with_heap found _ _ c.read_file.result c.read_file.ensures)

pub returns-in-Ok-Ends : goal.returns-in-Ok-Ends
returns-in-Ok-Ends g c found same there = ended Judges (λ (b : Vec ℕ Global) next. next ≡ with_heap b.items found) (ran_lines no_extern) (reads_heap c.args.asked.now.heap.now ∷ []) (judged_first (run_rules no_extern c.args.asked.now.heap.now c.args.asked.now.steps) []) found _ _ c.read_file.result c.in-Ok-Ends.report (c.in-Ok-Ends.is ∙ ap Ok c.in-Ok-Ends.field-0-is) (read_leads Judges c.args.asked.now.heap.now heap_limit with_heap found _ _ c.read_file.result c.read_file.ensures)

pub returns-in-Ok-Goes : goal.returns-in-Ok-Goes
returns-in-Ok-Goes g c found same there =
    follows Judges (λ (b : Vec ℕ Global) next. next ≡ with_heap b.items found) (ran_lines no_extern) (reads_heap c.args.asked.now.heap.now ∷ []) (judged_first (run_rules no_extern c.args.asked.now.heap.now c.args.asked.now.steps) []) found _ (world (g.F.Files.held c.read_file.new.files) (g.F.Files.failed_reads c.read_file.new.files) (g.F.Files.failed_writes c.read_file.new.files)) (world (g.F.Files.held c.read_file.new.files) (g.F.Files.failed_reads c.read_file.new.files) (g.F.Files.failed_writes c.read_file.new.files)) c.read_file.result c.in-Ok-Goes.bytes _
    (c.in-Ok-Goes.is ∙ ap Ok c.in-Ok-Goes.field-0-is) (read_leads Judges c.args.asked.now.heap.now heap_limit with_heap found _ _ c.read_file.result c.read_file.ensures)
    (λ next is. rules_conclude Judges (ran_lines no_extern) (run_rules no_extern c.args.asked.now.heap.now c.args.asked.now.steps) next _ _ (c.run_bytes.ensures next (kept_on (ap functions is) (ap (λ f. f.copies) is) same) (ap (λ f. f.at) is ∙ there) (ap (λ f. f.heap) is ∙ sym c.deref.ensures.value)))
