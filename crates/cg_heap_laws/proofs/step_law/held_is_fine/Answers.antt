use Rattle.cg_heap_laws.proofs.Steps.{held_is_fine}
use Rattle.cg_heap_laws.proofs.step_law.held_is_fine.Goals as goal

pub returns : goal.returns
returns c = held_is_fine
