use Rattle.std.proofs.Common.{◌≡◌}
use Rattle.cg_driver_cases.proofs.store.make_holes.Given as goal

abbrev pub invariant-loop-turn : goal.invariant-loop-turn
invariant-loop-turn g l = (g.S.Store.stored l.store).top ≡ (g.S.Store.stored l.initial.store).top
