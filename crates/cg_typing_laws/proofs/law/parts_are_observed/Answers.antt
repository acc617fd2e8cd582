use Rattle.cg_typing_laws.proofs.Named.{parts_observed}
use Rattle.cg_typing_laws.proofs.law.parts_are_observed.Goals as goal

pub returns : goal.returns
returns c = parts_observed
