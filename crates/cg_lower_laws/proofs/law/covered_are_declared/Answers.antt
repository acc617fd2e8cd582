use Rattle.cg_lower_laws.proofs.Tables.{covered_are_declared}
use Rattle.cg_lower_laws.proofs.law.covered_are_declared.Goals as goal

pub returns : goal.returns
returns c = covered_are_declared
