use Rattle.cg_eval_laws.proofs.Soundness.{functions_fit}
use Rattle.cg_eval_laws.proofs.law.functions_fit.Goals as goal

pub returns : goal.returns
returns c = functions_fit
