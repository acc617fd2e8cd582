use Rattle.std.proofs.Common.{◌≡◌, take}
use Rattle.cg_graphs.specs.Orders.{lists}
use Rattle.cg_graphs.specs.Ranks.{raised}
use Rattle.cg_graphs.proofs.ranks.raise.Given as goal

abbrev pub invariant-loop-targets : goal.invariant-loop-targets
invariant-loop-targets l = l.next.items ≡ raised (lists (take l.targets-index l.edges)) l.ranks.items
