use Rattle.cg_graphs.specs.Orders.{lists}
use Rattle.cg_graphs.specs.Numbers.{Fall}
use Rattle.cg_graphs.proofs.numbers.fall_until.Given as goal

abbrev pub invariant-loop-at : goal.invariant-loop-at
invariant-loop-at l = Fall (lists l.edges) l.numbers l.at
