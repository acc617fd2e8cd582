use Rattle.cg_driver_laws.proofs.Refined.{sources_are_refined}
use Rattle.cg_driver_laws.proofs.law.sources_are_refined.Goals as goal

pub returns : goal.returns
returns c = sources_are_refined
