use Rattle.cg_parser.proofs.Same.{one_answer}
use Rattle.cg_parser.proofs.law.one_answer.Goals as goal

pub returns : goal.returns
returns c = one_answer
