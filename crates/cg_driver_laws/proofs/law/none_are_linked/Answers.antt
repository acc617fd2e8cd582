use Rattle.cg_driver_laws.proofs.Programs.{none_are_linked}
use Rattle.cg_driver_laws.proofs.law.none_are_linked.Goals as goal

pub returns : goal.returns
returns c = none_are_linked
