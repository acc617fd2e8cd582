use Rattle.std.proofs.Common.{map, arith, sym, ◌∙◌}
use Rattle.cg_check_pieces.specs.View.{bounds_of}
use Rattle.cg_core.specs.Kernels.{function_of}
use Rattle.cg_check_context.proofs.TestSteps.{branches_past}
use Rattle.cg_check_context.proofs.tests.branches.Goals as goal

pub returns : goal.returns
returns c =
    sym c.loop-i.invariant
    ∙ branches_past (map function_of c.args.source.now.functions.now) (bounds_of c.args.source.now.vars.now) c.args.first c.args.second c.args.context.now.items c.args.us.now c.args.vs.now _ c.loop-i.i
    (λ d u v. omega (arith, c.loop-i-test.false, c.min-count.ensures, c.min.ensures, c.len.ensures, d, u, v))
