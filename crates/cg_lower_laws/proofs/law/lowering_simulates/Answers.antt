use Rattle.cg_lower_laws.proofs.Whole.{lowering_simulates}
use Rattle.cg_lower_laws.proofs.law.lowering_simulates.Goals as goal

pub returns : goal.returns
returns c = lowering_simulates
