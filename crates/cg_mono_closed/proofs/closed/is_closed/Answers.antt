use Rattle.std.proofs.Common.{sym, ap, ◌∙◌, arith}
use Rattle.std.specs.List.{list_all}
use Rattle.cg_core.specs.Kernels.{the_core}
use Rattle.cg_mono_closed.specs.Closed.{closed_node}
use Rattle.cg_mono_closed.proofs.Loops.{item_decided, item_left, items_end, seen_by}
use Rattle.cg_mono_closed.proofs.closed.is_closed.Goals as goal

pub returns-then-not-is_closed_node : goal.returns-then-not-is_closed_node
returns-then-not-is_closed_node c =
    item_decided closed_node (λ node. the_core node.now) c.as_slice-node-items.result.now c.loop-node.node-index c.node-item.result c.loop-node-test.true c.node-item.is (sym c.is_closed_node.ensures ∙ c.if-not-is_closed_node.true) c.loop-node.invariant
    ∙ ap (seen_by closed_node (λ node. the_core node.now)) c.as_slice-node-items.ensures.value ∙ ap (list_all closed_node) c.in_ok-nodes.ensures

pub loop-node-preserved : goal.loop-node-preserved
loop-node-preserved c =
    item_left closed_node (λ node. the_core node.now) c.as_slice-node-items.result.now c.loop-node.node-index c.node-item.result c.loop-node-test.true c.node-item.is (sym c.is_closed_node.ensures ∙ c.if-not-is_closed_node.false) c.loop-node.invariant

pub returns : goal.returns
returns c =
    items_end closed_node (λ node. the_core node.now) c.as_slice-node-items.result.now c.loop-node.node-index (omega (arith, c.loop-node-test.false)) c.loop-node.invariant
    ∙ ap (seen_by closed_node (λ node. the_core node.now)) c.as_slice-node-items.ensures.value ∙ ap (list_all closed_node) c.in_ok-nodes.ensures
