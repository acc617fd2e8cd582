use Rattle.cg_heap_laws.proofs.Frames.{frame_aside}
use Rattle.cg_heap_laws.proofs.law.frames_stand_beside.Goals as goal

pub returns : goal.returns
returns c = frame_aside
