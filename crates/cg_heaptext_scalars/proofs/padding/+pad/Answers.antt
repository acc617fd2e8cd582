use Rattle.std.proofs.Common.{arith}
use Rattle.cg_heaptext_scalars.proofs.Adding.{goes_no_more, goes_on, unset_next, unset_past}
use Rattle.cg_heaptext_scalars.proofs.padding.+pad.Goals as goal

pub pad_parts-loop-part-preserved : goal.pad_parts-loop-part-preserved
pad_parts-loop-part-preserved t c =
    goes_on _ _ _ _ _ _ _ c.loop-part.invariant c.in_ok-pad.ensures (unset_next c.args.parts.now c.loop-part.part-index c.part-item.result c.loop-part-test.true c.part-item.is)

pub pad_parts-returns : goal.pad_parts-returns
pad_parts-returns t c = goes_no_more _ _ _ _ c.loop-part.invariant (unset_past c.args.parts.now c.loop-part.part-index (omega (arith, c.loop-part-test.false)))
