use Rattle.cg_heaptext_lexer.proofs.Walking.{one_stand}
use Rattle.cg_heaptext_lexer.proofs.law.one_stand.Goals as goal

pub returns : goal.returns
returns c = one_stand
