use Rattle.cg_resolve.proofs.One.{one_answer}
use Rattle.cg_resolve.proofs.law.one_answer.Goals as goal

pub returns : goal.returns
returns c = one_answer
