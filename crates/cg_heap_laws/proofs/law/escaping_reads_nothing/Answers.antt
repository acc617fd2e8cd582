use Rattle.cg_heap_laws.proofs.ByKinds.{no_reads}
use Rattle.cg_heap_laws.proofs.law.escaping_reads_nothing.Goals as goal

pub returns : goal.returns
returns c = no_reads
