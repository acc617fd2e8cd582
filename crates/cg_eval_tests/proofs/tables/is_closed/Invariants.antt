use Rattle.std.proofs.Common.{◌≡◌, true, take}
use Rattle.std.specs.List.{list_all}
use Rattle.cg_eval_tests.proofs.Meanings.{has_meaning}
use Rattle.cg_eval_tests.proofs.tables.is_closed.Given as goal

abbrev pub invariant-loop-function : goal.invariant-loop-function
invariant-loop-function l = list_all has_meaning (take l.function-index l.functions) ≡ true
