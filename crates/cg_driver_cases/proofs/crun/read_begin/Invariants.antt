use Rattle.std.proofs.Common.{◌≤◌}
use Rattle.cg_driver_cases.proofs.crun.read_begin.Given as goal

abbrev pub invariant-loop-word : goal.invariant-loop-word
invariant-loop-word l = l.store.top ≤ 4294967295
