use Rattle.std.proofs.Common.{None, drop, replicate, ◌+◌, sym, ap, ◌∙◌}
use Rattle.cg_check_uses.proofs.SeenSteps.{noted_more, noted_all, noted_none}
use Rattle.cg_check_uses.specs.Noted.{over}
use Rattle.cg_check_uses.specs.Uses.{seen_at}
use Rattle.cg_check_uses.proofs.uses.seen_places.Goals as goal

pub loop-observer-init : goal.loop-observer-init
loop-observer-init c =
    ap (λ s. over s (λ i. seen_at i c.as_slice-observer-items.result.now)) c.in_ok-seen.ensures
    ∙ ap (λ os. over (replicate c.args.count None) (λ i. seen_at i os)) c.as_slice-observer-items.ensures
    ∙ noted_none c.args.count c.args.observers.now

pub loop-observer-preserved : goal.loop-observer-preserved
loop-observer-preserved c =
    let items = c.as_slice-observer-items.result.now in
    let k = c.loop-observer.observer-index in
    ap (λ s. over s (λ i. seen_at i (drop (k + 1) items))) c.see.ensures
    ∙ noted_more c.loop-observer.seen.items items k _ c.loop-observer-test.true ∙ c.loop-observer.invariant

pub returns : goal.returns
returns c =
    sym (noted_all c.loop-observer.seen.items c.as_slice-observer-items.result.now c.loop-observer.observer-index c.loop-observer-test.false)
    ∙ c.loop-observer.invariant
