use Rattle.cg_heap_laws.proofs.Changes.{step_frame}
use Rattle.cg_heap_laws.proofs.library_law.steps_are_frames.Goals as goal

pub returns : goal.returns
returns c = step_frame
