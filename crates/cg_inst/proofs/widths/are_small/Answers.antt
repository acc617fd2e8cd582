use Rattle.std.proofs.Common.{arith, map}
use Rattle.cg_inst.specs.Measured.{IsSmallBy, width_in}
use Rattle.cg_inst_types.specs.Layers.{types_at}
use Rattle.cg_inst.proofs.FoundSteps.{length_nodes, node_at}
use Rattle.cg_inst.proofs.LimitSteps.{holds_of, of_all, until_more}
use Rattle.cg_inst.proofs.WidthSteps.{few_by, many_by}
use Rattle.cg_inst.proofs.widths.are_small.Goals as goal

pub returns-then-nodes_of-gt1024 : goal.returns-then-nodes_of-gt1024
returns-then-nodes_of-gt1024 c =
    let types = types_at c.args.table.now c.args.types.now in
    let bound = length_nodes width_in c.args.widths.now c.loop-width.width-index c.loop-width-test.true in
    let is = node_at width_in c.args.widths.now c.loop-width.width-index c.width-item.result c.loop-width-test.true c.width-item.is in (
      λ e. absurd (cc),
      λ all. absurd (many_by types (width_in c.width-item.result) c.nodes_of.result c.nodes_of.ensures c.if-nodes_of-gt1024.true
          (of_all (IsSmallBy types) (map width_in c.args.widths.now) c.loop-width.width-index (width_in c.width-item.result) bound is all)),
    )

pub loop-width-preserved : goal.loop-width-preserved
loop-width-preserved c =
    let types = types_at c.args.table.now c.args.types.now in
    let bound = length_nodes width_in c.args.widths.now c.loop-width.width-index c.loop-width-test.true in
    let is = node_at width_in c.args.widths.now c.loop-width.width-index c.width-item.result c.loop-width-test.true c.width-item.is in
    until_more (IsSmallBy types) (map width_in c.args.widths.now) c.loop-width.width-index c.loop-width.invariant
    (holds_of (IsSmallBy types) (map width_in c.args.widths.now) c.loop-width.width-index (width_in c.width-item.result) bound is
    (few_by types (width_in c.width-item.result) c.nodes_of.result c.nodes_of.ensures (omega (arith, c.if-nodes_of-gt1024.false))))
