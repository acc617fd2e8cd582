use Rattle.cg_heap_laws.proofs.Present.{arrays_are_there}
use Rattle.cg_heap_laws.proofs.library_law.arrays_are_there.Goals as goal

pub returns : goal.returns
returns c = arrays_are_there
