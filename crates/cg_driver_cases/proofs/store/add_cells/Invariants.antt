use Rattle.std.proofs.Common.{◌+◌, ◌≤◌}
use Rattle.cg_driver_cases.proofs.store.add_cells.Given as goal

abbrev pub invariant-loop : goal.invariant-loop
invariant-loop g l = (g.S.Store.stored l.store).top ≤ (g.S.Store.stored l.initial.store).top + l.counter
