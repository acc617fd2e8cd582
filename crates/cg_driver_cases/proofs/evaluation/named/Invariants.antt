use Rattle.std.proofs.Common.{◌≡◌}
use Rattle.cg_driver_cases.proofs.evaluation.named.Given as goal

abbrev pub invariant-loop-function : goal.invariant-loop-function
invariant-loop-function l = l.at ≡ l.function-index
