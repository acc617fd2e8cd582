use Rattle.std.proofs.Common.{arith}
use Rattle.cg_lower.proofs.CallSteps.{lists_more, replicate_more}
use Rattle.cg_lower.proofs.graph.no_lists.Goals as goal

pub loop-at-preserved : goal.loop-at-preserved
loop-at-preserved c = grind (arith, lists_more, replicate_more, c.in_ok-push.ensures, c.loop-at.invariant)
