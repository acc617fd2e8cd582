use Rattle.cg_kinds.proofs.Laws.{bang_free}
use Rattle.cg_kinds.proofs.law.bang_gives_kinds.Goals as goal

pub returns : goal.returns
returns c = bang_free
