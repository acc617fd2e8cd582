use Rattle.cg_eval.proofs.Costs.{fuel_is_free}
use Rattle.cg_eval.proofs.law.fuel_is_free.Goals as goal

pub returns : goal.returns
returns c = fuel_is_free
