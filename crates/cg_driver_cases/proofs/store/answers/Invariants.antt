use Rattle.std.proofs.Common.{◌≡◌, length}
use Rattle.cg_driver_cases.proofs.store.answers.Given as goal

abbrev pub invariant-loop : goal.invariant-loop
invariant-loop l = length l.answers ≡ l.counter
