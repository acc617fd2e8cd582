use Rattle.std.proofs.Common.{[], ◌∷◌, ap, ◌∙◌, Ok}
use Rattle.cg_driver_steps.proofs.Following.{judged_ended, judged_follows, judged_halted}
use Rattle.cg_driver_steps.specs.Steps.{judged_first}
use Rattle.cg_driver.specs.Commands.{Judges, heap_steps, instanced, ran_lines}
use Rattle.cg_driver.specs.Externs.{no_extern}
use Rattle.cg_driver.specs.Built.{IsListed, RefusesInstances}
use Rattle.cg_driver.specs.Judged.{functions_in}
use Rattle.cg_driver.proofs.Building.{IsListedIn, listed_judged}
use Rattle.cg_driver.proofs.Saying.{goes_is}
use Rattle.cg_driver.proofs.run.run_listed.Goals as goal

pub run_ready-requires-clause-runs : goal.run_ready-requires-clause-runs
run_ready-requires-clause-runs g c = record {
  listed = goes_is (IsListed c.args.checked.now) (RefusesInstances (functions_in c.args.checked.now)) c.listed.result c.in-Ok-Goes.list (c.in-Ok-Goes.is ∙ ap Ok c.in-Ok-Goes.field-0-is) c.listed.ensures;
  allowed = c.requires.there;
  ty = c.requires.typed c.args.at c.requires.there.typed;
  stands = c.instance_place-place.ensures;
}

pub returns-in-Err : goal.returns-in-Err
returns-in-Err g c found same there = judged_halted Judges (ran_lines no_extern) (judged_first (instanced ∷ []) (heap_steps no_extern c.args.asked.now.heap.now c.args.asked.now.steps)) found _ _

pub returns-in-Ok-Ends : goal.returns-in-Ok-Ends
returns-in-Ok-Ends g c found same there =
    judged_ended Judges (IsListedIn c.args.checked.now found) (ran_lines no_extern) (instanced ∷ []) (heap_steps no_extern c.args.asked.now.heap.now c.args.asked.now.steps)
    found _ c.listed.result c.in-Ok-Ends.report (c.in-Ok-Ends.is ∙ ap Ok c.in-Ok-Ends.field-0-is)
    (listed_judged c.args.checked.now c.requires.cores found same c.listed.result c.listed.ensures)

pub returns-in-Ok-Goes : goal.returns-in-Ok-Goes
returns-in-Ok-Goes g c found same there =
    judged_follows Judges (IsListedIn c.args.checked.now found) (ran_lines no_extern) (instanced ∷ []) (heap_steps no_extern c.args.asked.now.heap.now c.args.asked.now.steps)
    found _ _ c.listed.result c.in-Ok-Goes.list c.run_ready.result (c.in-Ok-Goes.is ∙ ap Ok c.in-Ok-Goes.field-0-is)
    (listed_judged c.args.checked.now c.requires.cores found same c.listed.result c.listed.ensures)
    (λ next kept. c.run_ready.ensures next kept.kept (kept.at ∙ there))
