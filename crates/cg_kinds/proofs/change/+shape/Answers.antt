use Rattle.std.proofs.Common.{rules}
use Rattle.cg_base.proofs.Lists.{changed_more}
use Rattle.cg_base.specs.Types.{type_of, part_of}
use Rattle.cg_kinds.specs.Shapes.{shape, shape_piece}
use Rattle.cg_kinds.proofs.change.+shape.Goals as goal

pub shape_types-loop-i-preserved : goal.shape_types-loop-i-preserved
shape_types-loop-i-preserved t c =
    (search rules, changed_more type_of shape _ _ _ _ _ c.loop-i-test.true c.loop-i.auto.items c.index-items-i.is (search rules) c.loop-i.invariant.1)

pub shape_parts-loop-i-preserved : goal.shape_parts-loop-i-preserved
shape_parts-loop-i-preserved t c =
    (search rules, changed_more part_of shape_piece _ _ _ _ _ c.loop-i-test.true c.loop-i.auto.items c.index-items-i.is (search rules) c.loop-i.invariant.1)
