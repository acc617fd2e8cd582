use Rattle.cg_kinds.proofs.Laws.{bang_twice}
use Rattle.cg_kinds.proofs.law.bang_twice.Goals as goal

pub returns : goal.returns
returns c = bang_twice
