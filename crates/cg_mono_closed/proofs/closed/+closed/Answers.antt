use Rattle.std.proofs.Common.{sym, ap, ◌∙◌, arith}
use Rattle.cg_mono_closed.proofs.Loops.{part_decided, part_left, parts_closed, parts_end, type_decided, type_left, types_closed, types_end}
use Rattle.cg_mono_closed.proofs.closed.+closed.Goals as goal

pub are_closed_parts-returns-then-not-is_closed_type : goal.are_closed_parts-returns-then-not-is_closed_type
are_closed_parts-returns-then-not-is_closed_type t c =
    part_decided c.as_slice-part-items.result.now c.loop-part.part-index c.part-item.result c.loop-part-test.true c.part-item.is (sym c.is_closed_type.ensures ∙ c.if-not-is_closed_type.true) c.loop-part.invariant
    ∙ ap parts_closed c.as_slice-part-items.ensures

pub are_closed_parts-loop-part-preserved : goal.are_closed_parts-loop-part-preserved
are_closed_parts-loop-part-preserved t c =
    part_left c.as_slice-part-items.result.now c.loop-part.part-index c.part-item.result c.loop-part-test.true c.part-item.is (sym c.is_closed_type.ensures ∙ c.if-not-is_closed_type.false) c.loop-part.invariant

pub are_closed_parts-returns : goal.are_closed_parts-returns
are_closed_parts-returns t c = parts_end c.as_slice-part-items.result.now c.loop-part.part-index (omega (arith, c.loop-part-test.false)) c.loop-part.invariant ∙ ap parts_closed c.as_slice-part-items.ensures

pub are_closed_types-returns-then-not-is_closed_type : goal.are_closed_types-returns-then-not-is_closed_type
are_closed_types-returns-then-not-is_closed_type t c =
    type_decided c.as_slice-ty-items.result.now c.loop-ty.ty-index c.ty-item.result c.loop-ty-test.true c.ty-item.is (sym c.is_closed_type.ensures ∙ c.if-not-is_closed_type.true) c.loop-ty.invariant
    ∙ ap types_closed c.as_slice-ty-items.ensures

pub are_closed_types-loop-ty-preserved : goal.are_closed_types-loop-ty-preserved
are_closed_types-loop-ty-preserved t c =
    type_left c.as_slice-ty-items.result.now c.loop-ty.ty-index c.ty-item.result c.loop-ty-test.true c.ty-item.is (sym c.is_closed_type.ensures ∙ c.if-not-is_closed_type.false) c.loop-ty.invariant

pub are_closed_types-returns : goal.are_closed_types-returns
are_closed_types-returns t c = types_end c.as_slice-ty-items.result.now c.loop-ty.ty-index (omega (arith, c.loop-ty-test.false)) c.loop-ty.invariant ∙ ap types_closed c.as_slice-ty-items.ensures
