use Rattle.cg_heaptext_fault_laws.proofs.Faults.{one_text}
use Rattle.cg_heaptext_fault_laws.proofs.law.one_text.Goals as goal

pub returns : goal.returns
returns c = one_text
