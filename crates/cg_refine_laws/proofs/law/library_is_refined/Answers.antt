use Rattle.cg_refine_laws.proofs.Library.{library_is_refined}
use Rattle.cg_refine_laws.proofs.law.library_is_refined.Goals as goal

pub returns : goal.returns
returns c = library_is_refined
