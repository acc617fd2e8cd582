use Rattle.cg_gen_run_laws.proofs.Running.{steps_are_enough}
use Rattle.cg_gen_run_laws.proofs.law.steps_are_enough.Goals as goal

pub returns : goal.returns
returns c = steps_are_enough
