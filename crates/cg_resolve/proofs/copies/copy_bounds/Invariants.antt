use Rattle.std.proofs.Common.{◌≡◌, take}
use Rattle.cg_resolve.proofs.copies.copy_bounds.Given as goal

abbrev pub invariant-loop-bound : goal.invariant-loop-bound
invariant-loop-bound l = l.copies ≡ take l.bound-index l.vars
