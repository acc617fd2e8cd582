use Rattle.cg_heap_laws.proofs.Bang.{bang_foot}
use Rattle.cg_heap_laws.proofs.law.observed_is_read.Goals as goal

pub returns : goal.returns
returns c = bang_foot
