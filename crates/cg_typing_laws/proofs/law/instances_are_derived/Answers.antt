use Rattle.cg_typing_laws.proofs.Instances.{instances}
use Rattle.cg_typing_laws.proofs.law.instances_are_derived.Goals as goal

pub returns : goal.returns
returns c = instances
