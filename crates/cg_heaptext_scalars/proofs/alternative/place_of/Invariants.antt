use Rattle.std.proofs.Common.{◌≡◌, zero, drop}
use Rattle.cg_heaptext_scalars.specs.Alternatives.{place_from}
use Rattle.cg_heaptext_scalars.proofs.alternative.place_of.Given as goal

abbrev pub invariant-loop-at : goal.invariant-loop-at
invariant-loop-at l = place_from l.at l.name (drop l.at l.parts) ≡ place_from zero l.name l.parts
