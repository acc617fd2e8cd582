use Rattle.std.proofs.Common.{refl, sym, arith, ap, ◌||◌, ◌∙◌}
use Rattle.std.proofs.lemmas.List.{length-set, get_or_default}
use Rattle.cg_check_context.proofs.ObservedSteps.{see_more, see_done}
use Rattle.cg_check_pieces.specs.View.{is_seen_at}
use Rattle.cg_check_context.proofs.observed.observe.Goals as goal

pub loop-i-preserved : goal.loop-i-preserved
loop-i-preserved c =
    let inv = c.loop-i.invariant in
    let seen = c.args.seen.now.items in
    let items = c.loop-i.context.items in
    let i = c.loop-i.i in
    let was = c.index.result.now in
    let x = c.index_mut.result.now in
    let same = c.index.ensures ∙ get_or_default items i was x (omega (arith, c.loop-i-test.true, c.len-i-end.ensures, inv.0)) ∙ sym c.index_mut.ensures.value in (
      length-set _ _ _ ∙ inv.0,
      see_more c.args.context.now.items items i x (record { ty = x.ty; observed = c.or_before-observed.result })
          (omega (arith, c.loop-i-test.true, c.len-i-end.ensures)) inv.0 c.index_mut.ensures.value refl seen inv.1
          (c.or_before-observed.ensures ∙ ap (λ k. is_seen_at seen i || k.observed) same),
    )

pub returns : goal.returns
returns c = c.loop-i.invariant.1 ∙ see_done c.args.context.now.items c.args.seen.now.items c.loop-i.i (omega (arith, c.loop-i-test.false, c.len-i-end.ensures))
