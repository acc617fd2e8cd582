use Rattle.std.proofs.Common.{length, ◌-◌, take}
use Rattle.cg_graphs.specs.Walks.{AreDone}
use Rattle.cg_graphs.proofs.walk.first_not_done.Given as goal

abbrev pub invariant-loop-at : goal.invariant-loop-at
invariant-loop-at l = AreDone l.marks (take l.at l.targets)

abbrev pub decreases-loop-at : goal.decreases-loop-at
decreases-loop-at l = length l.targets - l.at
