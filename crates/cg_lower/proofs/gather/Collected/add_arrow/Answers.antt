use Rattle.std.proofs.Common.{refl}
use Rattle.cg_lower.proofs.CollectSteps.{grown_arrow}
use Rattle.cg_lower.proofs.gather.Collected.add_arrow.Goals as goal

pub returns : goal.returns
returns c = grown_arrow _ _ _ _ _ refl c.in_ok-add_arrow.ensures.arrows c.in_ok-add_arrow.ensures.list
