use Rattle.cg_update.proofs.Budgets.{more_budget}
use Rattle.cg_update.proofs.law.more_budget.Goals as goal

pub returns : goal.returns
returns c = more_budget
