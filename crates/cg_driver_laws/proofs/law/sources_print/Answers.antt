use Rattle.cg_driver_laws.proofs.Whole.{sources_print}
use Rattle.cg_driver_laws.proofs.law.sources_print.Goals as goal

pub returns : goal.returns
returns c = sources_print
