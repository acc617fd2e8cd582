use Rattle.cg_heap_laws.proofs.LibraryWhole.{library_meets}
use Rattle.cg_heap_laws.proofs.library_law.library_does.Goals as goal

pub returns : goal.returns
returns c = library_meets
