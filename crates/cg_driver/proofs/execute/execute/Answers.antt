use Rattle.cg_base.specs.Types.{type_of}
use Rattle.cg_driver_steps.specs.declared.status.Status.TheVariants.{StepLimit}
use Rattle.cg_driver.specs.Executed.{Executes}
use Rattle.cg_driver.specs.Externs.{no_extern}
use Rattle.cg_driver.specs.Judged.{argument_of, functions_in}
use Rattle.cg_driver_lines.specs.Lines.{step_limit_line}
use Rattle.cg_driver_laws.specs.Laws.{copies_in}
use Rattle.cg_value.specs.NoForeign.{no_foreign, none_is_lawful}
use Rattle.cg_value.specs.Values.{value_of}
use Rattle.cg_driver.proofs.Executing.{runs_out}
use Rattle.cg_driver.proofs.Placing.{never_stuck}
use Rattle.cg_driver.proofs.Saying.{line_told}
use Rattle.cg_driver.proofs.execute.execute.Goals as goal

pub returns-in-Ok : goal.returns-in-Ok
returns-in-Ok c = c.run_both.ensures c.requires.runs.0 (value_of c.args.start.value) c.args.steps c.requires.few c.requires.runs.1 c.in-Ok.ensures

pub returns-in-Err-StepLimit : goal.returns-in-Err-StepLimit
returns-in-Err-StepLimit c =
    line_told (Executes no_extern (functions_in c.args.checked.now) (copies_in c.args.checked.now c.args.list.now) c.args.chosen.at (type_of c.args.ty.now) (argument_of c.args.start) c.args.steps) StepLimit
    (step_limit_line c.args.steps)
    (runs_out no_extern c.args.checked.now (copies_in c.args.checked.now c.args.list.now) c.args.chosen.at (type_of c.args.ty.now) (argument_of c.args.start) c.args.steps c.requires.cores
    (rw c.in-Err-StepLimit.field-0-is at c.in-Err-StepLimit.ensures)) _ c.step_limit.ensures

pub eval-requires : goal.eval-requires
eval-requires c = record {
  never_stuck = never_stuck c.entries_are_sound.ensures c.represented_fits.ensures no_foreign none_is_lawful c.args.checked.now c.args.list.now c.args.chosen.at c.args.chosen.place c.args.steps c.requires.runs.0
      (type_of c.args.ty.now) (argument_of c.args.start) c.requires.runs.1;
}
