use Rattle.std.proofs.Common.{◌≡◌, true, false, Err, refl, sym, subst, arith}
use Rattle.std.specs.Str.{bytes_eq}
use Rattle.cg_heaptext_judge_notes.specs.declared.fault.JudgeFault.TheVariants.{Misfit}
use Rattle.cg_heaptext_judge_steps.proofs.Bare.{bare_found, bare_over, bare_passed}
use Rattle.cg_heaptext_judge_steps.specs.Steps.{Fits}
use Rattle.cg_heaptext_judge_steps.proofs.constant.judge_constant.Goals as goal

pub returns-then-eq : goal.returns-then-eq
returns-then-eq c = λ cells.
    let e : bytes_eq c.args.name.now c.part-item.result.name ≡ true = grind arith in
    subst (λ es. Fits es c.judge_bare.result)
    (sym (bare_found cells c.args.place c.args.name.now c.args.parts.now c.loop-part.part-index (c.loop-part.invariant cells) c.part-item.result c.loop-part-test.true c.part-item.is e)) c.judge_bare.ensures

pub loop-part-preserved : goal.loop-part-preserved
loop-part-preserved c = λ cells.
    let e : bytes_eq c.args.name.now c.part-item.result.name ≡ false = grind arith in
    bare_passed cells c.args.place c.args.name.now c.args.parts.now c.loop-part.part-index (c.loop-part.invariant cells) c.part-item.result c.loop-part-test.true c.part-item.is e

pub returns : goal.returns
returns c = λ cells.
    subst (λ es. Fits es (Err (Misfit c.args.place)))
    (sym (bare_over cells c.args.place c.args.name.now c.args.parts.now c.loop-part.part-index (c.loop-part.invariant cells) (omega (arith, c.loop-part-test.false)))) refl
