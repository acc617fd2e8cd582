use Rattle.std.proofs.Common.{◌≡◌, take}
use Rattle.cg_lower.proofs.program.copied.Given as goal

abbrev pub invariant-loop-at : goal.invariant-loop-at
invariant-loop-at l = l.copies ≡ take l.at-index l.at-items
