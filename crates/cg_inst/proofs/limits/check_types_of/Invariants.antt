use Rattle.std.proofs.Common.{◌≡◌, ◌<◌, ℕ, Some, slice_get}
use Rattle.cg_inst.specs.Founds.{found_in}
use Rattle.cg_inst.specs.Judged.{core_in}
use Rattle.cg_inst.specs.Limited.{HasSmallTypesAt, function_at}
use Rattle.cg_inst.proofs.limits.check_types_of.Given as goal

abbrev pub invariant-loop-at : goal.invariant-loop-at
invariant-loop-at l = (i : ℕ) → i < l.at → function_at (found_in l.found) i ≡ Some l.fun → HasSmallTypesAt (core_in l.checked) (slice_get (found_in l.found) i)
