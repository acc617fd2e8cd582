use Rattle.std.proofs.Common.{refl}
use Rattle.cg_lower.proofs.CollectSteps.{grown_type}
use Rattle.cg_lower.proofs.gather.Collected.add_type.Goals as goal

pub returns : goal.returns
returns c = grown_type _ _ _ _ _ refl c.in_ok-add.ensures.covered c.in_ok-add.ensures.kept c.in_ok-add.ensures.table
