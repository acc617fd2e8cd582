use Rattle.std.proofs.Common.{◌∷◌, [], ap, ◌∙◌, Ok}
use Rattle.cg_base.specs.Types.{type_of}
use Rattle.cg_driver_steps.proofs.Following.{rules_ended, rules_follow}
use Rattle.cg_value.specs.NoForeign.{no_foreign}
use Rattle.cg_driver.specs.Commands.{Judges, evaluated, heap_rules, ran_lines}
use Rattle.cg_driver.specs.Externs.{no_extern}
use Rattle.cg_driver.specs.Entered.{result_type}
use Rattle.cg_driver.specs.Found.{functions}
use Rattle.cg_driver.specs.Judged.{argument_of, IsStartOf, RefusesBytes}
use Rattle.cg_driver.proofs.Executing.{executed, ready_of, types_here}
use Rattle.cg_driver.proofs.Building.{kept_on}
use Rattle.cg_driver.proofs.Saying.{HasArgument, bytes_judged, goes_is}
use Rattle.cg_driver.proofs.run.run_bytes.Goals as goal

pub execute-requires-clause-runs : goal.execute-requires-clause-runs
execute-requires-clause-runs c = (
  type_of c.args.takes.now,
  ready_of c.args.checked.now c.args.list.now c.args.chosen.at c.args.chosen.place (type_of c.args.takes.now) (type_of c.args.gives.now) c.args.bytes.now c.in-Ok-Goes.start c.requires.runs
      (goes_is (IsStartOf c.args.bytes.now (type_of c.args.takes.now)) (RefusesBytes c.args.asked.now.heap.now c.args.bytes.now (type_of c.args.takes.now)) c.start_of.result c.in-Ok-Goes.start (c.in-Ok-Goes.is ∙ ap Ok c.in-Ok-Goes.field-0-is) c.start_of.ensures),
)

pub returns-in-Ok-Ends : goal.returns-in-Ok-Ends
returns-in-Ok-Ends c found same there bytes =
    rules_ended Judges (HasArgument found) (ran_lines no_extern) (heap_rules c.args.asked.now.heap.now) (evaluated no_foreign c.args.asked.now.steps ∷ []) found c.start_of.result c.in-Ok-Ends.report
    (c.in-Ok-Ends.is ∙ ap Ok c.in-Ok-Ends.field-0-is)
    (bytes_judged c.args.asked.now.heap.now c.args.bytes.now (type_of c.args.takes.now) found bytes (types_here c.args.checked.now c.args.list.now c.args.chosen.at c.args.chosen.place _ _ c.requires.runs found same there).0 c.start_of.result c.start_of.ensures)

pub returns-in-Ok-Goes : goal.returns-in-Ok-Goes
returns-in-Ok-Goes c found same there bytes =
    let types = types_here c.args.checked.now c.args.list.now c.args.chosen.at c.args.chosen.place _ _ c.requires.runs found same there in
    rules_follow Judges (HasArgument found) (ran_lines no_extern) (heap_rules c.args.asked.now.heap.now) (evaluated no_foreign c.args.asked.now.steps ∷ []) found c.start_of.result c.in-Ok-Goes.start c.execute.result
    (c.in-Ok-Goes.is ∙ ap Ok c.in-Ok-Goes.field-0-is)
    (bytes_judged c.args.asked.now.heap.now c.args.bytes.now (type_of c.args.takes.now) found bytes types.0 c.start_of.result c.start_of.ensures)
    (λ next k. executed no_extern c.args.checked.now c.args.list.now c.args.chosen.at (type_of c.args.gives.now) (argument_of c.in-Ok-Goes.start) c.args.asked.now.steps next
    (kept_on (ap functions k.same) (ap (λ f. f.copies) k.same) same) (ap (λ f. f.at) k.same ∙ there) (ap (λ f. result_type (functions f) f.at) k.same ∙ types.1) (ap (λ f. f.argument) k.same) c.execute.result c.execute.ensures)
