use Rattle.cg_heap_laws.proofs.Steps.{parts_are_fine}
use Rattle.cg_heap_laws.proofs.step_law.parts_are_fine.Goals as goal

pub returns : goal.returns
returns c = parts_are_fine
