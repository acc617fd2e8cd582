use Rattle.cg_driver_laws.proofs.Whole.{functions_stand}
use Rattle.cg_driver_laws.proofs.law.functions_stand.Goals as goal

pub returns : goal.returns
returns c = functions_stand
