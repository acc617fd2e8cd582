use Rattle.std.proofs.Common.{◌≡◌}
use Rattle.cg_graphs.specs.Orders.{lists}
use Rattle.cg_graphs.specs.Ranks.{ranks_at}
use Rattle.cg_graphs.proofs.ranks.counted.Given as goal

abbrev pub invariant-loop-pass : goal.invariant-loop-pass
invariant-loop-pass l = l.ranks.items ≡ ranks_at (lists l.edges) l._pass
