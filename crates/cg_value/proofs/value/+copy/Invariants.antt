use Rattle.std.proofs.Common.{◌≡◌, map, take}
use Rattle.cg_value.specs.Values.{value_of}
use Rattle.cg_value.proofs.value.+copy.Given as goal

abbrev pub invariant-copy_values-loop-value : goal.invariant-copy_values-loop-value
invariant-copy_values-loop-value l = map value_of l.copies ≡ map value_of (take l.value-index l.value-items)
