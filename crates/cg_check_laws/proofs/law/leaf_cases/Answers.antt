use Rattle.cg_check_laws.proofs.LeavesCases.{leaves}
use Rattle.cg_check_laws.proofs.law.leaf_cases.Goals as goal

pub returns : goal.returns
returns c = leaves
