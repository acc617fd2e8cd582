use Rattle.cg_lower.proofs.Programs.{lowered_simulates}
use Rattle.cg_lower.proofs.law.lowered_simulates.Goals as goal

pub returns : goal.returns
returns c = lowered_simulates
