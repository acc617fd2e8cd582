use Rattle.std.proofs.Common.{◌≡◌, drop, length, replicate}
use Rattle.cg_cmachine_layout.specs.Tables.{sized, slices}
use Rattle.cg_cmachine_layout.proofs.sizes.sizes.Given as goal

abbrev pub invariant-loop-at : goal.invariant-loop-at
invariant-loop-at l =
    sized l.names (slices l.settled.members.items) l.sizes.items (drop l.at-index l.settled.order.items)
    ≡ sized l.names (slices l.settled.members.items) (replicate (length l.settled.members.items) 0) l.settled.order.items
