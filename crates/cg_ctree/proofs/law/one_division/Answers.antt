use Rattle.cg_ctree.proofs.Division.{one_division}
use Rattle.cg_ctree.proofs.law.one_division.Goals as goal

pub returns : goal.returns
returns c = one_division
