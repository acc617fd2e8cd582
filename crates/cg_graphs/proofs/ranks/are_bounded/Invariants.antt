use Rattle.std.proofs.Common.{ℕ, get_or, ◌<◌, ◌≤◌}
use Rattle.cg_graphs.proofs.ranks.are_bounded.Given as goal

abbrev pub invariant-loop-rank : goal.invariant-loop-rank
invariant-loop-rank l = (i : ℕ) → i < l.rank-index → get_or l.ranks.items i 0 ≤ l.most
