use Rattle.cg_heap_laws.proofs.Once.{holds_once}
use Rattle.cg_heap_laws.proofs.law.values_are_one.Goals as goal

pub returns : goal.returns
returns c = holds_once
