use Rattle.std.proofs.Common.{[], ◌∷◌, ◌∙◌, ◌++◌, ap, Ok}
use Rattle.cg_driver_steps.specs.Steps.{judged_first}
use Rattle.cg_driver_steps.proofs.Following.{judged_follows, judged_ended, judged_halted}
use Rattle.cg_driver.specs.Commands.{Judges, source_rules, entry_rules, heap_steps, instanced, run_steps, ran_lines}
use Rattle.cg_driver.specs.Externs.{no_extern}
use Rattle.cg_driver.specs.Judged.{functions_in, IsCheckedSource, Keeps, RefusesSource}
use Rattle.cg_driver.proofs.Placing.{have_entry_types}
use Rattle.cg_driver.proofs.Saying.{goes_is, source_judged}
use Rattle.cg_driver.proofs.run.run_source.Goals as goal

pub run_checked-requires-clause-typed : goal.run_checked-requires-clause-typed
run_checked-requires-clause-typed g c =
    have_entry_types c.entries_have_types.ensures c.spelled_is_shaped.ensures c.args.source.now (functions_in c.in-Ok-Goes.checked)
    (goes_is (IsCheckedSource c.args.source.now) (RefusesSource c.args.asked.now.file.now c.args.source.now) c.judge.result c.in-Ok-Goes.checked (c.in-Ok-Goes.is ∙ ap Ok c.in-Ok-Goes.field-0-is) c.judge.ensures).accepted

pub returns-in-Err : goal.returns-in-Err
returns-in-Err g c found same = judged_halted Judges (ran_lines no_extern) (run_steps no_extern c.args.asked.now.file.now c.args.asked.now.entry.now c.args.asked.now.heap.now c.args.asked.now.steps) found _ _

pub returns-in-Ok-Ends : goal.returns-in-Ok-Ends
returns-in-Ok-Ends g c found same =
    judged_ended Judges Keeps (ran_lines no_extern) (source_rules c.args.asked.now.file.now)
    (judged_first (entry_rules c.args.asked.now.file.now c.args.asked.now.entry.now ++ instanced ∷ []) (heap_steps no_extern c.args.asked.now.heap.now c.args.asked.now.steps))
    found _ c.judge.result c.in-Ok-Ends.report (c.in-Ok-Ends.is ∙ ap Ok c.in-Ok-Ends.field-0-is)
    (source_judged c.args.asked.now.file.now c.args.source.now found same c.judge.result c.judge.ensures)

pub returns-in-Ok-Goes : goal.returns-in-Ok-Goes
returns-in-Ok-Goes g c found same =
    judged_follows Judges Keeps (ran_lines no_extern) (source_rules c.args.asked.now.file.now)
    (judged_first (entry_rules c.args.asked.now.file.now c.args.asked.now.entry.now ++ instanced ∷ []) (heap_steps no_extern c.args.asked.now.heap.now c.args.asked.now.steps))
    found _ _ c.judge.result c.in-Ok-Goes.checked c.run_checked.result (c.in-Ok-Goes.is ∙ ap Ok c.in-Ok-Goes.field-0-is)
    (source_judged c.args.asked.now.file.now c.args.source.now found same c.judge.result c.judge.ensures)
    (λ next kept. c.run_checked.ensures next kept.same)
