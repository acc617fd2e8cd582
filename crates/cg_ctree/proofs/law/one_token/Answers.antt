use Rattle.cg_ctree.proofs.Division.{one_token}
use Rattle.cg_ctree.proofs.law.one_token.Goals as goal

pub returns : goal.returns
returns c = one_token
