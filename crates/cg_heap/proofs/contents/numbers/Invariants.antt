use Rattle.std.proofs.Common.{◌≡◌, map, take}
use Rattle.cg_heap.specs.Reps as reps
use Rattle.cg_heap.proofs.contents.numbers.Given as goal

abbrev pub invariant-loop-scalar : goal.invariant-loop-scalar
invariant-loop-scalar l = l.numbers ≡ map reps.number_of (take l.scalar-index l.scalars)
