use Rattle.std.proofs.Common.{arith, map, subst, true}
use Rattle.cg_core.specs.Kernels.{function_of}
use Rattle.cg_eval_def.specs.Foreigns.{IsClosed}
use Rattle.cg_eval_tests.specs.Halving.{halving}
use Rattle.cg_eval_tests.proofs.Meanings.{closed}
use Rattle.cg_eval_tests.proofs.tables.is_closed.Goals as goal

pub returns : goal.returns
returns c = λ whole.
    subst (λ fs. IsClosed halving (map function_of fs) (λ i. true)) c.as_slice-functions.ensures
    (closed c.as_slice-functions.result.now c.loop-function.function-index (omega (arith, c.loop-function-test.false)) c.loop-function.invariant)
