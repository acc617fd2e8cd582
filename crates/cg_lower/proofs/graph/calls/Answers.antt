use Rattle.std.proofs.Common.{ap, ◌∙◌}
use Rattle.cg_graphs.specs.Orders.{lists}
use Rattle.cg_lower.specs.Calls.{calls_of, nodes_called, whole_by}
use Rattle.cg_lower.specs.Copies.{pair_of}
use Rattle.cg_lower.proofs.CallSteps.{calls_more}
use Rattle.cg_lower.proofs.graph.calls.Goals as goal

pub loop-copy-preserved : goal.loop-copy-preserved
loop-copy-preserved c =
    let kept = c.loop-copy.invariant.1 in
    let row = c.in_ok-calls_from.ensures.targets ∙ ap (λ p. nodes_called (whole_by p) (calls_of (whole_by p) (pair_of c.copy-item.result))) kept in (
      ap lists c.in_ok-push.ensures.items
          ∙ calls_more (whole_by c.args.places.now) c.as_slice-copy-items.result.now c.loop-copy.copy-index c.copy-item.result c.loop-copy.edges.items c.in_ok-calls_from.field-0 c.loop-copy-test.true c.copy-item.is c.loop-copy.invariant.0 row,
      c.calls_from.ensures.kept ∙ kept,
    )
