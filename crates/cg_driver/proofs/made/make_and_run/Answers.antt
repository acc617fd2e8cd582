use Rattle.std.proofs.Common.{◌≡◌, [], ◌∷◌, ◌++◌, ap, ◌∙◌, refl, Ok, sym, subst}
use Rattle.cg_driver_steps.proofs.Following.{rules_ended, rules_follow}
use Rattle.cg_driver_words.specs.Words.{default_steps}
use Rattle.cg_gen.specs.Generated.{entry as made_entry, source as made_source}
use Rattle.cg_driver.specs.Commands.{IsMade, Judges, certifiable, entry_rules, instanced, made, made_name, run_rules, source_rules}
use Rattle.cg_driver.specs.Externs.{no_extern}
use Rattle.cg_driver.specs.Judged.{IsCheckedSource, Keeps, RefusesSource, functions_in}
use Rattle.cg_driver.proofs.Making.{keeps_heap}
use Rattle.cg_driver.proofs.Placing.{have_entry_types}
use Rattle.cg_driver.proofs.Saying.{goes_is, source_judged}
use Rattle.cg_driver.proofs.made.make_and_run.Goals as goal

pub enter_made-requires-clause-typed : goal.enter_made-requires-clause-typed
enter_made-requires-clause-typed c =
    have_entry_types c.entries_have_types.ensures c.spelled_is_shaped.ensures c.deref.result.now (functions_in c.in-Ok-Goes.checked)
    (goes_is (IsCheckedSource c.deref.result.now) (RefusesSource made_name c.deref.result.now) c.judge.result c.in-Ok-Goes.checked (c.in-Ok-Goes.is ∙ ap Ok c.in-Ok-Goes.field-0-is) c.judge.ensures).accepted

pub returns-in-Ok-Ends : goal.returns-in-Ok-Ends
returns-in-Ok-Ends c =
    rules_ended Judges Keeps (IsMade no_extern) (source_rules made_name) (entry_rules made_name (made_entry c.args.number) ++ instanced ∷ certifiable ∷ run_rules no_extern made_name default_steps)
    (made c.args.number) c.judge.result c.in-Ok-Ends.report (c.in-Ok-Ends.is ∙ ap Ok c.in-Ok-Ends.field-0-is)
    (source_judged made_name c.deref.result.now (made c.args.number) (sym (c.deref.ensures.value ∙ c.in_ok-source.ensures)) c.judge.result c.judge.ensures)

pub returns : goal.returns
returns c =
    rules_follow Judges (λ checked next. Keeps checked next × (next.heap ≡ (made c.args.number).heap)) (IsMade no_extern) (source_rules made_name)
    (entry_rules made_name (made_entry c.args.number) ++ instanced ∷ certifiable ∷ run_rules no_extern made_name default_steps)
    (made c.args.number) c.judge.result c.in-Ok-Goes.checked c.enter_made.result (c.in-Ok-Goes.is ∙ ap Ok c.in-Ok-Goes.field-0-is)
    (keeps_heap Keeps (source_rules made_name) (made c.args.number) c.judge.result
    (source_judged made_name c.deref.result.now (made c.args.number) (sym (c.deref.ensures.value ∙ c.in_ok-source.ensures)) c.judge.result c.judge.ensures))
    (λ next kept. c.enter_made.ensures next kept.0.same kept.1)
