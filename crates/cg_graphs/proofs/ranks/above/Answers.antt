use Rattle.std.proofs.Common.{◌∙◌}
use Rattle.cg_graphs.proofs.OrderSteps.{above_more}
use Rattle.cg_graphs.proofs.ranks.above.Goals as goal

pub loop-at-preserved : goal.loop-at-preserved
loop-at-preserved c =
    c.max-most.ensures ∙ above_more c.args.ranks.now.items c.args.targets.now c.loop-at.at-index c.rank_at.result c.loop-at.most c.loop-at-test.true c.rank_at.ensures c.loop-at.invariant
