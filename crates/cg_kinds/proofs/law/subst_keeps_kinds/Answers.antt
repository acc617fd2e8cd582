use Rattle.cg_kinds.proofs.Laws.{kept}
use Rattle.cg_kinds.proofs.law.subst_keeps_kinds.Goals as goal

pub returns : goal.returns
returns c = kept
