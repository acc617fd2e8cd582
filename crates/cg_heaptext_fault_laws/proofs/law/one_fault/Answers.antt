use Rattle.cg_heaptext_fault_laws.proofs.Faults.{one_fault}
use Rattle.cg_heaptext_fault_laws.proofs.law.one_fault.Goals as goal

pub returns : goal.returns
returns c = one_fault
