-- A cell of which some answers were taken.
use Rattle.std.specs.Prelude.{ℕ, drop}
use Rattle.cg_heap.specs.declared.cell.Cell.{Cell}
use Rattle.cg_heap.specs.declared.cell.Cell.TheVariants.{Slots, Words, Answers}

-- without its first answers, so many
abbrev pub left : ℕ → Cell → Cell
left n (Slots ss) = Slots ss
left n (Words ns) = Words ns
left n (Answers bs) = Answers (drop n bs)
