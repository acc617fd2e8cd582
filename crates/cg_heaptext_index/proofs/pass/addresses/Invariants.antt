use Rattle.cg_heaptext_index.proofs.Repeats.{Passed}
use Rattle.cg_heaptext_index.proofs.pass.addresses.Given as goal

abbrev pub invariant-loop-at : goal.invariant-loop-at
invariant-loop-at l = Passed l.entries l.at l.positions l.second
