use Rattle.std.proofs.Common.{◌≡◌, take, drop}
use Rattle.cg_heap.specs.Readings.{held_scalars}
use Rattle.cg_heap.specs.Stored.{cell_at}
use Rattle.cg_cmachine_values.proofs.read.copy_slots.Given as goal

abbrev pub invariant-loop-offset : goal.invariant-loop-offset
invariant-loop-offset g l = l.slots.items ≡ take l.offset (drop l.start (held_scalars (cell_at (g.S.Store.stored l.store) l.address)))
