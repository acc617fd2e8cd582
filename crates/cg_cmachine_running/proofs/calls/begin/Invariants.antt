use Rattle.std.proofs.Common.{◌≡◌, ◌++◌, ◌-◌, length}
use Rattle.std.specs.Prelude.{replicate}
use Rattle.cg_heap.specs.declared.cell.Scalar.TheVariants.{Unset}
use Rattle.cg_cmachine_running.proofs.calls.begin.Given as goal

abbrev pub invariant-loop-slots : goal.invariant-loop-slots
invariant-loop-slots l = l.slots.items ++ replicate (l.head.slots - length l.slots.items) Unset ≡ l.fn.slots.items ++ replicate (l.head.slots - length l.fn.slots.items) Unset

abbrev pub decreases-loop-slots : goal.decreases-loop-slots
decreases-loop-slots l = l.head.slots - length l.slots.items
