use Rattle.cg_inst_types.specs.Layers.{types_at}
use Rattle.cg_inst.proofs.WidthSteps.{first_variable, no_variable, sum_on, sum_whole, sum_within}
use Rattle.cg_inst.proofs.widths.nodes_of.Goals as goal

pub loop-variable-preserved : goal.loop-variable-preserved
loop-variable-preserved c =
    let args = types_at c.args.table.now c.args.types.now in
    let items = c.as_slice-variable-items.result.now in (
      sum_within _ _ _ c.saturating_add-total.ensures,
      sum_on _ _ _ _ _ _ _ c.nodes_of_argument.ensures c.saturating_add-total.ensures
          (first_variable args items c.loop-variable.variable-index 0 c.loop-variable-test.true) c.loop-variable.invariant.1,
    )

pub returns : goal.returns
returns c =
    sum_whole _ _ _ c.loop-variable.invariant.0
    (no_variable (types_at c.args.table.now c.args.types.now) c.as_slice-variable-items.result.now c.loop-variable.variable-index c.loop-variable-test.false) c.loop-variable.invariant.1
