use Rattle.cg_lower_laws.proofs.Whole.{library_is_simulated}
use Rattle.cg_lower_laws.proofs.law.library_is_simulated.Goals as goal

pub returns : goal.returns
returns c = library_is_simulated
