use Rattle.std.proofs.Common.{◌≡◌, take}
use Rattle.cg_graphs.specs.Ranks.{above, ranked}
use Rattle.cg_graphs.proofs.ranks.above.Given as goal

abbrev pub invariant-loop-at : goal.invariant-loop-at
invariant-loop-at l = l.most ≡ above (ranked l.ranks.items) (take l.at-index l.targets)
