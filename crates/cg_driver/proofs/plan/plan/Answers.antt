use Rattle.std.proofs.Common.{◌∙◌, ap, sym, Some}
use Rattle.std.specs.Option.{option_map}
use Rattle.cg_driver_steps.proofs.Joining.{stops_before}
use Rattle.cg_driver_words.specs.Views.{command_view}
use Rattle.cg_driver_words.specs.Words.{check, build, gen, recheck, run, texts, command_of}
use Rattle.cg_driver_steps.proofs.Following.{rules_conclude}
use Rattle.cg_driver.specs.Commands.{IsMade, Judges, asked, made, made_rules}
use Rattle.cg_driver.specs.Externs.{no_extern}
use Rattle.cg_driver.proofs.Wording.{planned, usage_concludes}
use Rattle.cg_driver.proofs.plan.plan.Goals as goal

pub returns-in-Err : goal.returns-in-Err
returns-in-Err g c = stops_before Judges (asked no_extern c.args.words.now).steps (asked no_extern c.args.words.now).start _

pub returns-in-Ok-None : goal.returns-in-Ok-None
returns-in-Ok-None g c =
    usage_concludes no_extern (command_of (texts c.args.words.now)) (ap (option_map command_view) (sym c.in-Ok-None.field-0-is) ∙ c.in-Ok-None.ensures.asks) _ c.usage.result c.usage.ensures

pub returns-in-Ok-Some-Check : goal.returns-in-Ok-Some-Check
returns-in-Ok-Some-Check g c =
    planned no_extern (Some (check c.in-Ok-Some-Check.file.now)) (command_of (texts c.args.words.now))
    (ap (option_map command_view) (sym (c.in-Ok-Some-Check.field-0-is ∙ ap Some c.in-Ok-Some-Check.field-0-0-is)) ∙ c.in-Ok-Some-Check.ensures.asks) _ _ c.check_file.result c.check_file.ensures

pub returns-in-Ok-Some-Build : goal.returns-in-Ok-Some-Build
returns-in-Ok-Some-Build g c =
    planned no_extern (Some (build c.in-Ok-Some-Build.file.now c.in-Ok-Some-Build.text.now c.in-Ok-Some-Build.certificate.now)) (command_of (texts c.args.words.now))
    (ap (option_map command_view) (sym (c.in-Ok-Some-Build.field-0-is ∙ ap Some c.in-Ok-Some-Build.field-0-0-is)) ∙ c.in-Ok-Some-Build.ensures.asks) _ _ c.build_file.result c.build_file.ensures

pub returns-in-Ok-Some-Recheck : goal.returns-in-Ok-Some-Recheck
returns-in-Ok-Some-Recheck g c =
    planned no_extern (Some (recheck c.in-Ok-Some-Recheck.file.now c.in-Ok-Some-Recheck.certificate.now)) (command_of (texts c.args.words.now))
    (ap (option_map command_view) (sym (c.in-Ok-Some-Recheck.field-0-is ∙ ap Some c.in-Ok-Some-Recheck.field-0-0-is)) ∙ c.in-Ok-Some-Recheck.ensures.asks) _ _ c.recheck_file.result c.recheck_file.ensures

pub returns-in-Ok-Some-Run : goal.returns-in-Ok-Some-Run
returns-in-Ok-Some-Run g c =
    planned no_extern (Some (run c.in-Ok-Some-Run.file.now c.in-Ok-Some-Run.entry.now c.in-Ok-Some-Run.heap.now c.in-Ok-Some-Run.steps)) (command_of (texts c.args.words.now))
    (ap (option_map command_view) (sym (c.in-Ok-Some-Run.field-0-is ∙ ap Some c.in-Ok-Some-Run.field-0-0-is)) ∙ c.in-Ok-Some-Run.ensures.asks) _ _ c.run_file.result c.run_file.ensures

pub returns-in-Ok-Some-Gen : goal.returns-in-Ok-Some-Gen
returns-in-Ok-Some-Gen g c =
    planned no_extern (Some (gen c.in-Ok-Some-Gen.number)) (command_of (texts c.args.words.now))
    (ap (option_map command_view) (sym (c.in-Ok-Some-Gen.field-0-is ∙ ap Some c.in-Ok-Some-Gen.field-0-0-is)) ∙ c.in-Ok-Some-Gen.ensures.asks) _ _ c.make_and_run.result
    (rules_conclude Judges (IsMade no_extern) (made_rules no_extern c.in-Ok-Some-Gen.number) (made c.in-Ok-Some-Gen.number) _ c.make_and_run.result c.make_and_run.ensures)
