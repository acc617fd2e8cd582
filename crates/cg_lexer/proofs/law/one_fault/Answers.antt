use Rattle.cg_lexer.proofs.Division.{one_fault}
use Rattle.cg_lexer.proofs.law.one_fault.Goals as goal

pub returns : goal.returns
returns c = one_fault
