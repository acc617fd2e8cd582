use Rattle.std.proofs.Common.{arith, sym, ◌∙◌}
use Rattle.cg_check_pieces.specs.View.{bounds_of}
use Rattle.cg_certcheck_context.proofs.ContextSteps.{second_past}
use Rattle.cg_certcheck_context.proofs.context.seconds_lent.Goals as goal

pub returns : goal.returns
returns c =
    sym (second_past (bounds_of c.args.source.now.vars.now) c.args.marks.now c.args.context.now c.loop-i.side.items c.loop-i.i (λ m e. omega (arith, m, e)))
    ∙ c.loop-i.invariant
