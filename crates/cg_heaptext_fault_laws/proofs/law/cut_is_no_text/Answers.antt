use Rattle.cg_heaptext_fault_laws.proofs.Cuts.{cut_is_no_text}
use Rattle.cg_heaptext_fault_laws.proofs.law.cut_is_no_text.Goals as goal

pub returns : goal.returns
returns c = cut_is_no_text
