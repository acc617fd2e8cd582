use Rattle.std.proofs.Common.{◌≡◌, ◌++◌, drop}
use Rattle.cg_graphs.specs.Orders.{lists}
use Rattle.cg_cmachine_layout.specs.Tables.{counted, slices}
use Rattle.cg_cmachine_layout.proofs.circles.without.Given as goal

abbrev pub invariant-loop-at : goal.invariant-loop-at
invariant-loop-at l =
    slices l.kept.items ++ counted (lists l.edges) l.at (slices (drop l.at l.structs)) ≡ counted (lists l.edges) 0 (slices l.structs)
