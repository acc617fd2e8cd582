use Rattle.cg_heap_laws.proofs.ByKinds.{no_writes}
use Rattle.cg_heap_laws.proofs.law.shared_writes_nothing.Goals as goal

pub returns : goal.returns
returns c = no_writes
