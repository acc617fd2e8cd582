use Rattle.std.proofs.Common.{ℕ, ◌<◌, List, length, get_or}
use Rattle.std.specs.List.{All}
use Rattle.cg_graphs.specs.Orders.{lists}
use Rattle.cg_core_tests.proofs.circles.are_closed.Given as goal

abbrev pub invariant-loop-at : goal.invariant-loop-at
invariant-loop-at l = (i : ℕ) (d : List ℕ) → i < l.at → All (λ j. j < length l.edges) (get_or (lists l.edges) i d)
