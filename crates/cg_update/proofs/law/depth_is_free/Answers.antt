use Rattle.cg_update.proofs.Budgets.{depth_is_free}
use Rattle.cg_update.proofs.law.depth_is_free.Goals as goal

pub returns : goal.returns
returns c = depth_is_free
