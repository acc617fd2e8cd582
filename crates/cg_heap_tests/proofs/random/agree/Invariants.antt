use Rattle.std.proofs.Common.{◌≡◌}
use Rattle.cg_heap_tests.proofs.random.agree.Given as goal

abbrev pub invariant-loop : goal.invariant-loop
invariant-loop g l = (g.S.Store.stored l.store).top ≡ l.top
