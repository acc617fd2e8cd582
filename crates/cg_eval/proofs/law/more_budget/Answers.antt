use Rattle.cg_eval.proofs.Costs.{more_budget}
use Rattle.cg_eval.proofs.law.more_budget.Goals as goal

pub returns : goal.returns
returns c = more_budget
