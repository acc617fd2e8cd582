use Rattle.cg_heap_laws.proofs.Steps.{writes_are_steps}
use Rattle.cg_heap_laws.proofs.step_law.writes_are_steps.Goals as goal

pub returns : goal.returns
returns c = writes_are_steps
