use Rattle.cg_heap_laws.proofs.Steps.{makes_are_steps}
use Rattle.cg_heap_laws.proofs.step_law.makes_are_steps.Goals as goal

pub returns : goal.returns
returns c = makes_are_steps
