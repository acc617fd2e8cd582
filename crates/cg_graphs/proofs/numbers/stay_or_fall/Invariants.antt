use Rattle.cg_graphs.specs.Orders.{lists}
use Rattle.cg_graphs.specs.Numbers.{StayOrFall}
use Rattle.cg_graphs.proofs.numbers.stay_or_fall.Given as goal

abbrev pub invariant-loop-at : goal.invariant-loop-at
invariant-loop-at l = StayOrFall (lists l.edges) l.numbers l.at
