use Rattle.std.proofs.Common.{◌≡◌}
use Rattle.cg_graphs.specs.declared.walk.Mark.TheVariants.{New}
use Rattle.cg_graphs.specs.Orders.{lists}
use Rattle.cg_graphs.specs.Walks.{state, mark_at, weight, IsWalk, StaysMet}
use Rattle.cg_graphs.proofs.walk.go_down.Given as goal

abbrev pub invariant-loop-at : goal.invariant-loop-at
invariant-loop-at l = record {
  kept : IsWalk (lists l.edges) (state l.walk);
  met : StaysMet (state l.fn.walk) (state l.walk);
  here : mark_at l.walk.marks.items l.root ≡ New → ⊥;
}

abbrev pub decreases-loop-at : goal.decreases-loop-at
decreases-loop-at l = weight (state l.walk)
