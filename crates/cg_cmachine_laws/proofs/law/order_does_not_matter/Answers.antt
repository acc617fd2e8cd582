use Rattle.cg_cmachine_laws.proofs.Names.{order_does_not_matter}
use Rattle.cg_cmachine_laws.proofs.law.order_does_not_matter.Goals as goal

pub returns : goal.returns
returns c = order_does_not_matter
