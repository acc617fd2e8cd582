use Rattle.cg_check_laws.proofs.OneFault.{one_fault}
use Rattle.cg_check_laws.proofs.law.one_fault.Goals as goal

pub returns : goal.returns
returns c = one_fault
