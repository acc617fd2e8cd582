use Rattle.std.proofs.Common.{[], ◌∷◌, ◌∙◌, ◌++◌, ap, Ok}
use Rattle.cg_driver_steps.specs.Steps.{judged_first}
use Rattle.cg_driver_steps.proofs.Following.{judged_follows, judged_ended, judged_halted}
use Rattle.cg_driver.specs.Commands.{Judges, entry_rules, heap_steps, instanced, ran_lines}
use Rattle.cg_driver.specs.Externs.{no_extern}
use Rattle.cg_driver.specs.Judged.{functions_in}
use Rattle.cg_driver.proofs.Saying.{HasEntry, entry_judged}
use Rattle.cg_driver.proofs.run.run_checked.Goals as goal

pub returns-in-Err : goal.returns-in-Err
returns-in-Err g c found same =
    judged_halted Judges (ran_lines no_extern) (judged_first (entry_rules c.args.asked.now.file.now c.args.asked.now.entry.now ++ instanced ∷ []) (heap_steps no_extern c.args.asked.now.heap.now c.args.asked.now.steps)) found _ _

pub returns-in-Ok-Ends : goal.returns-in-Ok-Ends
returns-in-Ok-Ends g c found same =
    judged_ended Judges (λ at next. HasEntry (functions_in c.args.checked.now) at next) (ran_lines no_extern) (entry_rules c.args.asked.now.file.now c.args.asked.now.entry.now) (judged_first (instanced ∷ []) (heap_steps no_extern c.args.asked.now.heap.now c.args.asked.now.steps))
    found _ c.entry_of.result c.in-Ok-Ends.report (c.in-Ok-Ends.is ∙ ap Ok c.in-Ok-Ends.field-0-is)
    (entry_judged c.args.asked.now.file.now c.args.asked.now.entry.now (functions_in c.args.checked.now) found same c.entry_of.result c.entry_of.ensures)

pub returns-in-Ok-Goes : goal.returns-in-Ok-Goes
returns-in-Ok-Goes g c found same =
    judged_follows Judges (λ at next. HasEntry (functions_in c.args.checked.now) at next) (ran_lines no_extern) (entry_rules c.args.asked.now.file.now c.args.asked.now.entry.now) (judged_first (instanced ∷ []) (heap_steps no_extern c.args.asked.now.heap.now c.args.asked.now.steps))
    found _ _ c.entry_of.result c.in-Ok-Goes.at c.run_listed.result (c.in-Ok-Goes.is ∙ ap Ok c.in-Ok-Goes.field-0-is)
    (entry_judged c.args.asked.now.file.now c.args.asked.now.entry.now (functions_in c.args.checked.now) found same c.entry_of.result c.entry_of.ensures)
    (λ next e. c.run_listed.ensures next e.same e.found)
