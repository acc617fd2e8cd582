use Rattle.std.proofs.Common.{ℕ, ◌<◌}
use Rattle.cg_graphs.specs.Circles.{Reaches}
use Rattle.cg_graphs.specs.Orders.{lists}
use Rattle.cg_graphs.proofs.first.first_up_to.Given as goal

abbrev pub invariant-loop-at : goal.invariant-loop-at
invariant-loop-at l = (j : ℕ) → j < l.at → Reaches (lists l.edges) j j → ⊥
