use Rattle.cg_driver_laws.proofs.Whole.{sources_are_programs}
use Rattle.cg_driver_laws.proofs.law.sources_are_programs.Goals as goal

pub returns : goal.returns
returns c = sources_are_programs
