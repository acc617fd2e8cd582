use Rattle.cg_heap_laws.proofs.Allocator.{answers_suffice}
use Rattle.cg_heap_laws.proofs.library_law.answers_suffice.Goals as goal

pub returns : goal.returns
returns c = answers_suffice
