use Rattle.cg_lower_laws.proofs.Whole.{dispatch_is_simulated}
use Rattle.cg_lower_laws.proofs.law.dispatch_is_simulated.Goals as goal

pub returns : goal.returns
returns c = dispatch_is_simulated
