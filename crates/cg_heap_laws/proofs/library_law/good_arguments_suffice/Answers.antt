use Rattle.cg_heap_laws.proofs.Rising.{good_arguments}
use Rattle.cg_heap_laws.proofs.library_law.good_arguments_suffice.Goals as goal

pub returns : goal.returns
returns c = good_arguments
