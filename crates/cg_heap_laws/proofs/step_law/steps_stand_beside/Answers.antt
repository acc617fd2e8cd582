use Rattle.cg_heap_laws.proofs.Steps.{steps_stand_beside}
use Rattle.cg_heap_laws.proofs.step_law.steps_stand_beside.Goals as goal

pub returns : goal.returns
returns c = steps_stand_beside
