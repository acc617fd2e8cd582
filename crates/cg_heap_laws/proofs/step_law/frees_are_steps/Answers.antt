use Rattle.cg_heap_laws.proofs.Steps.{frees_are_steps}
use Rattle.cg_heap_laws.proofs.step_law.frees_are_steps.Goals as goal

pub returns : goal.returns
returns c = frees_are_steps
