use Rattle.cg_heaptext_fault_laws.proofs.Cuts.{one_cut}
use Rattle.cg_heaptext_fault_laws.proofs.law.one_cut.Goals as goal

pub returns : goal.returns
returns c = one_cut
