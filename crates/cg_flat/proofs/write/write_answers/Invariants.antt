use Rattle.std.proofs.Common.{◌≡◌, ◌∷◌, length, map, take}
use Rattle.cg_flat.specs.Flat.{answer_word, written}
use Rattle.cg_flat.proofs.write.write_answers.Given as goal

abbrev pub invariant-loop-index : goal.invariant-loop-index
invariant-loop-index l = (l.words.items ≡ written l.at (0 ∷ map answer_word (take l.index l.answers)) l.fn.words.items) × (length l.words.items ≡ length l.fn.words.items)
