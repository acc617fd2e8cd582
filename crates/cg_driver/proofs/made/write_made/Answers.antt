use Rattle.std.proofs.Common.{[], ◌∷◌, ap, sym, ◌∙◌, Ok}
use Rattle.cg_driver_steps.proofs.Following.{rules_ended, rules_follow}
use Rattle.cg_driver_words.specs.Words.{default_steps}
use Rattle.cg_driver.specs.Commands.{IsMade, Judges, certifiable, made_name, run_rules}
use Rattle.cg_driver.specs.Externs.{no_extern}
use Rattle.cg_driver.proofs.Building.{KeepsBuilt, made_judged}
use Rattle.cg_driver.proofs.made.write_made.Goals as goal

pub returns-in-Ok-Ends : goal.returns-in-Ok-Ends
returns-in-Ok-Ends c found kept at heap =
    rules_ended Judges (KeepsBuilt c.args.checked.now c.args.list.now found) (IsMade no_extern) (certifiable ∷ []) (run_rules no_extern made_name default_steps) found c.make.result c.in-Ok-Ends.report
    (c.in-Ok-Ends.is ∙ ap Ok c.in-Ok-Ends.field-0-is) (made_judged c.args.checked.now c.args.list.now found kept c.make.result c.make.ensures)

pub returns-in-Ok-Goes : goal.returns-in-Ok-Goes
returns-in-Ok-Goes c found kept at heap =
    rules_follow Judges (KeepsBuilt c.args.checked.now c.args.list.now found) (IsMade no_extern) (certifiable ∷ []) (run_rules no_extern made_name default_steps) found c.make.result c.in-Ok-Goes.written c.run_made.result
    (c.in-Ok-Goes.is ∙ ap Ok c.in-Ok-Goes.field-0-is) (made_judged c.args.checked.now c.args.list.now found kept c.make.result c.make.ensures)
    (λ next k. c.run_made.ensures next k.is k.kept (ap (λ f. f.at) k.same ∙ at) (ap (λ f. f.heap) k.same ∙ heap))
