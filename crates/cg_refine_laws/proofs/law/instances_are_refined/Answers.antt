use Rattle.cg_refine_laws.proofs.Instances.{instances_are_refined}
use Rattle.cg_refine_laws.proofs.law.instances_are_refined.Goals as goal

pub returns : goal.returns
returns c = instances_are_refined
