use Rattle.cg_heap_laws.proofs.Steps.{freed_is_exact}
use Rattle.cg_heap_laws.proofs.step_law.freed_is_exact.Goals as goal

pub returns : goal.returns
returns c = freed_is_exact
