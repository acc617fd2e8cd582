use Rattle.std.proofs.Common.{◌≡◌, take}
use Rattle.cg_mono.proofs.cores.copy_seen.Given as goal

abbrev pub invariant-loop-one : goal.invariant-loop-one
invariant-loop-one l = l.copies ≡ take l.one-index l.one-items
