use Rattle.cg_mono_laws.proofs.Kept.{evaluation_is_kept}
use Rattle.cg_mono_laws.proofs.law.evaluation_is_kept.Goals as goal

-- The two holes are the laws that each instance of the list is derived and mentions only instances of it, and that each is one of its function.
pub returns : goal.returns
returns c = evaluation_is_kept
