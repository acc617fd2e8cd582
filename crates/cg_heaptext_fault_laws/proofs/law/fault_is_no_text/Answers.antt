use Rattle.cg_heaptext_fault_laws.proofs.Faults.{fault_is_no_text}
use Rattle.cg_heaptext_fault_laws.proofs.law.fault_is_no_text.Goals as goal

pub returns : goal.returns
returns c = fault_is_no_text
