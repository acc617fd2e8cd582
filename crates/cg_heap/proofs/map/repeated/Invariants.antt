use Rattle.std.proofs.Common.{◌≡◌, replicate}
use Rattle.cg_heap.proofs.map.repeated.Given as goal

abbrev pub invariant-loop : goal.invariant-loop
invariant-loop g l = l.items ≡ replicate l.counter l.item
