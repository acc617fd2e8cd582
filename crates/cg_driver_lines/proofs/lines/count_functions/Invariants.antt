use Rattle.std.proofs.Common.{◌≡◌, take}
use Rattle.std.specs.Option.{is_some}
use Rattle.std.specs.List.{count_by}
use Rattle.cg_driver_lines.proofs.lines.count_functions.Given as goal

abbrev pub invariant-loop-function : goal.invariant-loop-function
invariant-loop-function l = l.count ≡ count_by (λ f. is_some f.body) (take l.function-index l.functions)
