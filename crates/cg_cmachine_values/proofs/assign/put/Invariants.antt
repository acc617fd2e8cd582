use Rattle.std.proofs.Common.{◌≡◌, ◌+◌, ◌||◌, true, List, length, take}
use Rattle.std.specs.Bool.{nat_eq, nat_le}
use Rattle.std.specs.declared.option.Option.TheVariants.{Some}
use Rattle.cg_cmachine_def.specs.Targets.{with_cell_at}
use Rattle.cg_cmachine_values.specs.Values.{overwritten}
use Rattle.cg_heap.specs.declared.cell.Cell.TheVariants.{Slots}
use Rattle.cg_heap.specs.declared.cell.Scalar.{Scalar}
use Rattle.cg_heap.specs.Stored.{cell_at}
use Rattle.cg_cmachine_values.proofs.assign.put.Given as goal

abbrev pub invariant-loop-i : goal.invariant-loop-i
invariant-loop-i g l =
    (us : List Scalar) → cell_at (g.S.Store.stored l.initial.store) l.address ≡ Some (Slots us) → (nat_eq (length l.scalars) 0 || nat_le (l.start + length l.scalars) (length us)) ≡ true
    → g.S.Store.stored l.store ≡ with_cell_at l.address (Slots (overwritten l.start (take l.i l.scalars) us)) (g.S.Store.stored l.initial.store)
