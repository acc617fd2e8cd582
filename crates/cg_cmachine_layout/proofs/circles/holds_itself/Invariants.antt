use Rattle.std.proofs.Common.{◌≡◌}
use Rattle.cg_graphs.specs.Orders.{lists}
use Rattle.cg_cmachine_layout.specs.Tables.{rounds}
use Rattle.cg_cmachine_layout.proofs.circles.holds_itself.Given as goal

abbrev pub invariant-loop-round : goal.invariant-loop-round
invariant-loop-round l = l.marks.items ≡ rounds l.round (lists l.edges) l.at
