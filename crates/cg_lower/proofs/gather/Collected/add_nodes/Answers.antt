use Rattle.std.proofs.Common.{refl}
use Rattle.cg_lower.proofs.CollectSteps.{grown_as, grown_both, grown_none, types_more, called_more}
use Rattle.cg_lower.proofs.gather.Collected.add_nodes.Goals as goal

pub loop-node-init : goal.loop-node-init
loop-node-init c = grown_none _ _

pub loop-node-preserved : goal.loop-node-preserved
loop-node-preserved c =
    let both = grown_both _ _ _ _ _ _ _ _ _ _ _ _ c.loop-node.invariant c.in_ok-add_node.ensures in
    grown_as _ _ _ _ _ _ _ _ _ _
    (types_more c.args.nodes.now c.loop-node.node-index c.node-item.result c.loop-node-test.true c.node-item.is)
    (called_more c.args.nodes.now c.loop-node.node-index c.node-item.result c.loop-node-test.true c.node-item.is) refl both
