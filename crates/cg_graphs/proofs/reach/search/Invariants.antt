use Rattle.cg_graphs.specs.Orders.{lists}
use Rattle.cg_graphs.specs.Reached.{reached, IsSearch}
use Rattle.cg_graphs.proofs.ReachSteps.{left}
use Rattle.cg_graphs.proofs.reach.search.Given as goal

abbrev pub invariant-loop-at : goal.invariant-loop-at
invariant-loop-at l = IsSearch (lists l.edges) l.from (reached l.marks.items l.work.items)

abbrev pub decreases-loop-at : goal.decreases-loop-at
decreases-loop-at l = left (reached l.marks.items l.work.items)
