use Rattle.std.proofs.Common.{arith, get_or, refl, sym, ◌∙◌, ap}
use Rattle.cg_certcheck_context.proofs.SplitSteps.{fits_more, fits_stop}
use Rattle.cg_certcheck_context.specs.Contexts.{entry_of}
use Rattle.cg_check_pieces.specs.View.{bounds_of}
use Rattle.cg_core.specs.declared.derivation.Mark.TheVariants.{Gone}
use Rattle.cg_certcheck_def.specs.Tests.{fits}
use Rattle.cg_certcheck_context.proofs.splits.splits_seen.Goals as goal

pub returns-then-not-fits : goal.returns-then-not-fits
returns-then-not-fits c =
    let vars = bounds_of c.args.source.now.vars.now in
    let m = get_or c.args.marks.now c.loop-i.i Gone in
    let e = c.index-context-i.result in
    sym (sym c.loop-i.invariant ∙ fits_stop vars c.args.seen.now c.args.marks.now c.args.context.now c.loop-i.i m e (omega arith) (omega arith)
    refl c.index-context-i.is (sym (c.fits.ensures ∙ ap (λ b. fits vars b m (entry_of vars e)) c.is_seen_at.ensures) ∙ c.if-not-fits.true))

pub loop-i-preserved : goal.loop-i-preserved
loop-i-preserved c =
    let vars = bounds_of c.args.source.now.vars.now in
    let m = get_or c.args.marks.now c.loop-i.i Gone in
    let e = c.index-context-i.result in
    fits_more vars c.args.seen.now c.args.marks.now c.args.context.now c.loop-i.i m e (omega arith) (omega arith)
    refl c.index-context-i.is (sym (c.fits.ensures ∙ ap (λ b. fits vars b m (entry_of vars e)) c.is_seen_at.ensures) ∙ c.if-not-fits.false) ∙ c.loop-i.invariant
