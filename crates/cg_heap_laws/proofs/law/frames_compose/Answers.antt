use Rattle.cg_heap_laws.proofs.Frames.{frame_then}
use Rattle.cg_heap_laws.proofs.law.frames_compose.Goals as goal

pub returns : goal.returns
returns c = frame_then
