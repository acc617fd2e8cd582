use Rattle.std.proofs.Common.{◌+◌, ℕ, ap, ◌∙◌}
use Rattle.cg_lower.proofs.FunctionSteps.{declared_more}
use Rattle.cg_lower.proofs.function.declared_locals.Goals as goal

pub loop-ty-preserved : goal.loop-ty-preserved
loop-ty-preserved c =
    let more = declared_more c.as_mut_slice-ty-items.result.now c.loop-ty.ty-items c.loop-ty.ty-index c.loop-ty.at c.replace-ty.result c.replace-ty.new.dest c.in_ok-name.name c.loop-ty.decls
    c.loop-ty-test.true c.loop-ty.invariant.2 c.loop-ty.invariant.1 (cc) c.in_ok-name.ensures c.loop-ty.invariant.0 in
    (c.in_ok-push.ensures.ok ∙ more.0, more.1, ap (λ (n : ℕ). n + 1) c.loop-ty.invariant.2)
