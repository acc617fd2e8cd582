use Rattle.std.proofs.Common.{◌≡◌, map, take}
use Rattle.cg_graphs.specs.Orders.{lists}
use Rattle.cg_cmachine_layout.specs.Tables.{slices, targets}
use Rattle.cg_cmachine_layout.proofs.circles.edges.Given as goal

abbrev pub invariant-loop-members : goal.invariant-loop-members
invariant-loop-members l = lists l.edges.items ≡ map (targets l.names) (slices (take l.members-index l.structs))
