use Rattle.std.proofs.Common.{arith}
use Rattle.cg_lower.specs.Collected.{arrows_of, types_of}
use Rattle.cg_lower.specs.Copies.{pair_of}
use Rattle.cg_lower.proofs.CollectSteps.{collected, flat_more, grown_as, grown_both, grown_first, list_more}
use Rattle.cg_lower.proofs.gather.collect.Goals as goal

pub loop-copy-init : goal.loop-copy-init
loop-copy-init c = grown_first _ _ c.new.ensures.list c.new.ensures.arrows c.new-2.ensures

pub loop-copy-preserved : goal.loop-copy-preserved
loop-copy-preserved c =
    let both = grown_both _ _ _ _ _ _ _ _ _ _ _ _ c.loop-copy.invariant c.in_ok-add_copy.ensures in
    let xs = c.as_slice-copy-items.result.now in
    grown_as _ _ _ _ _ _ _ _ _ _
    (flat_more pair_of xs c.loop-copy.copy-index c.copy-item.result c.loop-copy-test.true c.copy-item.is types_of)
    (flat_more pair_of xs c.loop-copy.copy-index c.copy-item.result c.loop-copy-test.true c.copy-item.is arrows_of)
    (list_more xs c.loop-copy.copy-index c.copy-item.result c.loop-copy-test.true c.copy-item.is) both

pub returns : goal.returns
returns c =
    let xs = c.as_slice-copy-items.result.now in
    collected c.args.mono.now xs c.loop-copy.copy-index c.loop-copy.collected (omega (arith, c.loop-copy-test.false)) c.as_slice-copy-items.ensures c.loop-copy.invariant
