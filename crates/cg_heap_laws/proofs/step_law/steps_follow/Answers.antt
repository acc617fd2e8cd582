use Rattle.cg_heap_laws.proofs.Steps.{steps_follow}
use Rattle.cg_heap_laws.proofs.step_law.steps_follow.Goals as goal

pub returns : goal.returns
returns c = steps_follow
