use Rattle.cg_heap_laws.proofs.Same.{holds_same}
use Rattle.cg_heap_laws.proofs.law.footprints_suffice.Goals as goal

pub returns : goal.returns
returns c = holds_same
