use Rattle.std.proofs.Common.{refl, arith, ◌∙◌}
use Rattle.std.proofs.lemmas.List.{length-set}
use Rattle.cg_check_context.proofs.ObservedSteps.{flags_more, flags_done}
use Rattle.cg_check_context.proofs.observed.restore.Goals as goal

pub loop-i-preserved : goal.loop-i-preserved
loop-i-preserved c =
    let inv = c.loop-i.invariant in
    let x = c.index_mut.result.now in (
      length-set _ _ _ ∙ inv.0,
      flags_more c.args.context.now.items c.loop-i.context.items c.loop-i.i x (record { ty = x.ty; observed = c.flag_at-observed.result })
          (omega (arith, c.loop-i-test.true, c.len-i-end.ensures)) inv.0 c.index_mut.ensures.value refl c.args.flags.now.items inv.1 c.flag_at-observed.ensures,
    )

pub returns : goal.returns
returns c = c.loop-i.invariant.1 ∙ flags_done c.args.context.now.items c.args.flags.now.items c.loop-i.i (omega (arith, c.loop-i-test.false, c.len-i-end.ensures))
