use Rattle.std.proofs.Common.{refl}
use Rattle.cg_graphs.proofs.WalkSteps.{done_more}
use Rattle.cg_graphs.proofs.walk.first_not_done.Goals as goal

pub loop-at-preserved : goal.loop-at-preserved
loop-at-preserved c = done_more c.args.marks.now c.args.targets.now c.loop-at.at c.loop-at-test.true c.loop-at.invariant (c.if-is_done.ensures.0 refl)
