use Rattle.std.proofs.Common.{◌≡◌, length, replicate}
use Rattle.cg_flat.specs.Flat.{written}
use Rattle.cg_flat.proofs.write.clear.Given as goal

abbrev pub invariant-loop-index : goal.invariant-loop-index
invariant-loop-index l = (l.words.items ≡ written l.at (replicate l.index 0) l.initial.words.items) × (length l.words.items ≡ length l.initial.words.items)
