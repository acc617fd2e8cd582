use Rattle.std.proofs.Common.{arith, map, subst}
use Rattle.cg_core.specs.Kernels.{function_of}
use Rattle.cg_driver_cases.specs.Whole.{HasBodies}
use Rattle.cg_driver_cases.proofs.Entries.{all_bodies}
use Rattle.cg_driver_cases.proofs.evaluation.is_whole.Goals as goal

pub returns : goal.returns
returns c = λ whole.
    subst (λ fs. HasBodies (map function_of fs)) c.as_slice-functions.ensures
    (all_bodies c.as_slice-functions.result.now c.loop-function.function-index (omega (arith, c.loop-function-test.false)) c.loop-function.invariant)
