use Rattle.std.proofs.Common.{◌≡◌, [], ◌∷◌, ap, ◌∙◌, Ok}
use Rattle.cg_driver_steps.proofs.Following.{rules_ended, rules_follow}
use Rattle.cg_driver_words.specs.Words.{default_steps}
use Rattle.cg_driver.specs.Built.{IsListed, RefusesInstances}
use Rattle.cg_driver.specs.Commands.{IsMade, Judges, certifiable, instanced, made_name, run_rules}
use Rattle.cg_driver.specs.Externs.{no_extern}
use Rattle.cg_driver.specs.Judged.{functions_in}
use Rattle.cg_driver.proofs.Building.{IsListedIn, listed_judged}
use Rattle.cg_driver.proofs.Making.{keeps_heap}
use Rattle.cg_driver.proofs.Saying.{goes_is}
use Rattle.cg_driver.proofs.made.list_made.Goals as goal

pub write_made-requires-clause-runs : goal.write_made-requires-clause-runs
write_made-requires-clause-runs c = record {
  listed = goes_is (IsListed c.args.checked.now) (RefusesInstances (functions_in c.args.checked.now)) c.listed.result c.in-Ok-Goes.list (c.in-Ok-Goes.is ∙ ap Ok c.in-Ok-Goes.field-0-is) c.listed.ensures;
  allowed = c.requires.there;
  ty = c.requires.typed c.args.at c.requires.there.typed;
  stands = c.instance_place-place.ensures;
}

pub returns-in-Ok-Ends : goal.returns-in-Ok-Ends
returns-in-Ok-Ends c found same at heap =
    rules_ended Judges (IsListedIn c.args.checked.now found) (IsMade no_extern) (instanced ∷ []) (certifiable ∷ run_rules no_extern made_name default_steps) found c.listed.result c.in-Ok-Ends.report
    (c.in-Ok-Ends.is ∙ ap Ok c.in-Ok-Ends.field-0-is) (listed_judged c.args.checked.now c.requires.cores found same c.listed.result c.listed.ensures)

pub returns-in-Ok-Goes : goal.returns-in-Ok-Goes
returns-in-Ok-Goes c found same at heap =
    rules_follow Judges (λ list next. IsListedIn c.args.checked.now found list next × (next.heap ≡ found.heap)) (IsMade no_extern) (instanced ∷ []) (certifiable ∷ run_rules no_extern made_name default_steps) found
    c.listed.result c.in-Ok-Goes.list c.write_made.result (c.in-Ok-Goes.is ∙ ap Ok c.in-Ok-Goes.field-0-is)
    (keeps_heap (IsListedIn c.args.checked.now found) (instanced ∷ []) found c.listed.result (listed_judged c.args.checked.now c.requires.cores found same c.listed.result c.listed.ensures))
    (λ next k. c.write_made.ensures next k.0.kept (k.0.at ∙ at) (k.1 ∙ heap))
