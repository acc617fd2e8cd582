use Rattle.cg_refine.proofs.Whole.{nodes_are_refined}
use Rattle.cg_refine.proofs.law.nodes_are_refined.Goals as goal

pub returns : goal.returns
returns c = nodes_are_refined
