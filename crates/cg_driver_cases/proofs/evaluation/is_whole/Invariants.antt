use Rattle.std.proofs.Common.{◌≡◌, true, take}
use Rattle.std.specs.List.{list_all}
use Rattle.cg_driver_cases.proofs.Entries.{has_body}
use Rattle.cg_driver_cases.proofs.evaluation.is_whole.Given as goal

abbrev pub invariant-loop-function : goal.invariant-loop-function
invariant-loop-function l = list_all has_body (take l.function-index l.functions) ≡ true
