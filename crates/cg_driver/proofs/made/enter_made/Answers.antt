use Rattle.std.proofs.Common.{◌≡◌, ℕ, List, [], ◌∷◌, ◌++◌, ap, ◌∙◌, Ok, subst}
use Rattle.cg_driver_steps.proofs.Following.{rules_ended, rules_follow}
use Rattle.cg_driver_steps.specs.Parts.{Rules}
use Rattle.cg_driver_words.specs.Words.{default_steps}
use Rattle.cg_driver.specs.Commands.{IsMade, Judges, certifiable, entry_rules, instanced, made_name, run_rules}
use Rattle.cg_driver.specs.Externs.{no_extern}
use Rattle.cg_driver.specs.Judged.{functions_in}
use Rattle.cg_driver.proofs.Making.{keeps_heap}
use Rattle.cg_driver.proofs.Saying.{HasEntry, entry_judged}
use Rattle.cg_driver.proofs.made.enter_made.Goals as goal

pub returns-in-Ok-Ends : goal.returns-in-Ok-Ends
returns-in-Ok-Ends c found same heap =
    let name = c.deref.result.now in
    let is = c.deref.ensures ∙ c.in_ok-entry.ensures in
    subst (λ (e : List ℕ). Rules Judges (IsMade no_extern) (entry_rules made_name e ++ instanced ∷ certifiable ∷ run_rules no_extern made_name default_steps) found (Ok c.in-Ok-Ends.report)) is
    (rules_ended Judges (λ at next. HasEntry (functions_in c.args.checked.now) at next) (IsMade no_extern) (entry_rules made_name name) (instanced ∷ certifiable ∷ run_rules no_extern made_name default_steps)
    found c.entry_of.result c.in-Ok-Ends.report (c.in-Ok-Ends.is ∙ ap Ok c.in-Ok-Ends.field-0-is)
    (entry_judged made_name name (functions_in c.args.checked.now) found same c.entry_of.result c.entry_of.ensures))

pub returns : goal.returns
returns c found same heap =
    let name = c.deref.result.now in
    let is = c.deref.ensures ∙ c.in_ok-entry.ensures in
    subst (λ (e : List ℕ). Rules Judges (IsMade no_extern) (entry_rules made_name e ++ instanced ∷ certifiable ∷ run_rules no_extern made_name default_steps) found c.list_made.result) is
    (rules_follow Judges (λ at next. HasEntry (functions_in c.args.checked.now) at next × (next.heap ≡ found.heap)) (IsMade no_extern) (entry_rules made_name name)
    (instanced ∷ certifiable ∷ run_rules no_extern made_name default_steps) found c.entry_of.result c.in-Ok-Goes.at c.list_made.result (c.in-Ok-Goes.is ∙ ap Ok c.in-Ok-Goes.field-0-is)
    (keeps_heap (λ at next. HasEntry (functions_in c.args.checked.now) at next) (entry_rules made_name name) found c.entry_of.result
    (entry_judged made_name name (functions_in c.args.checked.now) found same c.entry_of.result c.entry_of.ensures))
    (λ next e. c.list_made.ensures next e.0.same e.0.found (e.1 ∙ heap)))
