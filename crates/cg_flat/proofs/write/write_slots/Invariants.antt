use Rattle.std.proofs.Common.{◌≡◌, length, take}
use Rattle.cg_flat.specs.Flat.{slot_words, written}
use Rattle.cg_flat.proofs.write.write_slots.Given as goal

abbrev pub invariant-loop-index : goal.invariant-loop-index
invariant-loop-index l = (l.words.items ≡ written l.at (slot_words (take l.index l.slots)) l.initial.words.items) × (length l.words.items ≡ length l.initial.words.items)
