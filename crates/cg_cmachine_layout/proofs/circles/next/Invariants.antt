use Rattle.std.proofs.Common.{◌≡◌, map, take}
use Rattle.cg_graphs.specs.Orders.{lists}
use Rattle.cg_cmachine_layout.specs.Tables.{any_reaches}
use Rattle.cg_cmachine_layout.proofs.circles.next.Given as goal

abbrev pub invariant-loop-targets : goal.invariant-loop-targets
invariant-loop-targets l = l.more.items ≡ map (any_reaches l.goal l.marks) (lists (take l.targets-index l.edges))
