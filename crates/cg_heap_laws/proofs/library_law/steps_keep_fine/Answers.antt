use Rattle.cg_heap_laws.proofs.Changes.{step_fine}
use Rattle.cg_heap_laws.proofs.library_law.steps_keep_fine.Goals as goal

pub returns : goal.returns
returns c = step_fine
