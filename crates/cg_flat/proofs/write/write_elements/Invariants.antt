use Rattle.std.proofs.Common.{◌≡◌, length, take}
use Rattle.cg_flat.specs.Flat.{written}
use Rattle.cg_flat.proofs.write.write_elements.Given as goal

abbrev pub invariant-loop-index : goal.invariant-loop-index
invariant-loop-index l = (l.words.items ≡ written l.at (take l.index l.elements) l.initial.words.items) × (length l.words.items ≡ length l.initial.words.items)
