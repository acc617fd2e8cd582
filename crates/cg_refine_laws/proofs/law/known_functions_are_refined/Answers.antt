use Rattle.cg_refine_laws.proofs.Known.{known_functions_are_refined}
use Rattle.cg_refine_laws.proofs.law.known_functions_are_refined.Goals as goal

pub returns : goal.returns
returns c = known_functions_are_refined
