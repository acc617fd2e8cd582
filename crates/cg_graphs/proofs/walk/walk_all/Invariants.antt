use Rattle.std.proofs.Common.{◌≡◌, ℕ, ◌<◌, []}
use Rattle.cg_graphs.specs.declared.walk.Mark.TheVariants.{New}
use Rattle.cg_graphs.specs.Orders.{lists}
use Rattle.cg_graphs.specs.Walks.{state, mark_at, IsWalk}
use Rattle.cg_graphs.proofs.walk.walk_all.Given as goal

abbrev pub invariant-loop-root : goal.invariant-loop-root
invariant-loop-root l = record {
  kept : IsWalk (lists l.edges) (state l.walk);
  back : l.walk.way.items ≡ [];
  met : (i : ℕ) → i < l.root → mark_at l.walk.marks.items i ≡ New → ⊥;
}
