use Rattle.cg_heap_laws.proofs.Steps.{nothing_is_a_step}
use Rattle.cg_heap_laws.proofs.step_law.nothing_is_a_step.Goals as goal

pub returns : goal.returns
returns c = nothing_is_a_step
