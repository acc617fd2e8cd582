use Rattle.cg_mono_closed.proofs.Staying.{closed_cores_stay}
use Rattle.cg_mono_closed.proofs.law.closed_cores_stay.Goals as goal

pub returns : goal.returns
returns c = closed_cores_stay
