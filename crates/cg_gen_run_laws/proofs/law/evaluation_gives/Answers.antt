use Rattle.cg_gen_run_laws.proofs.Running.{evaluation_gives}
use Rattle.cg_gen_run_laws.proofs.law.evaluation_gives.Goals as goal

pub returns : goal.returns
returns c = evaluation_gives
