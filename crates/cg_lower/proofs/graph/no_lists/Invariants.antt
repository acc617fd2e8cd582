use Rattle.std.proofs.Common.{◌≡◌, [], replicate}
use Rattle.cg_graphs.specs.Orders.{lists}
use Rattle.cg_lower.proofs.graph.no_lists.Given as goal

abbrev pub invariant-loop-at : goal.invariant-loop-at
invariant-loop-at l = lists l.vectors.items ≡ replicate l._at []
