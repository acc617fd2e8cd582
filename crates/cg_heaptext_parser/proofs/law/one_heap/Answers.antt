use Rattle.cg_heaptext_parser.proofs.Says.{one_heap}
use Rattle.cg_heaptext_parser.proofs.law.one_heap.Goals as goal

pub returns : goal.returns
returns c = one_heap
