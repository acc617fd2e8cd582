use Rattle.cg_check_laws.proofs.BranchesCases.{branches}
use Rattle.cg_check_laws.proofs.law.branch_cases.Goals as goal

pub returns : goal.returns
returns c = branches
