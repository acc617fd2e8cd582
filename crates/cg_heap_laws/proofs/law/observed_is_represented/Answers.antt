use Rattle.cg_heap_laws.proofs.Bang.{bang_holds}
use Rattle.cg_heap_laws.proofs.law.observed_is_represented.Goals as goal

pub returns : goal.returns
returns c = bang_holds
