use Rattle.std.proofs.Common.{◌+◌, ap}
use Rattle.cg_lower_nodes.proofs.Statements.{fill_more}
use Rattle.cg_lower_nodes.proofs.nodes.fill.Goals as goal

pub loop-value-preserved : goal.loop-value-preserved
loop-value-preserved c = (
  ap (λ z. z + 1) c.loop-value.invariant.0,
  fill_more c.args.stmts.now c.loop-value.stmts c.assign.new.stmts c.as_slice-value-items.result.now c.loop-value.value-index c.loop-value.at c.args.to c.value-item.result c.in_ok-value.value
      c.loop-value-test.true c.value-item.is c.loop-value.invariant.0 c.in_ok-value.ensures c.loop-value.invariant.1 (c.in_ok-assign.ensures),
)
