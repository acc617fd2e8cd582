-- What a store over an ordered map holds.
use Rattle.std.specs.Prelude.{ℕ, List}
use Rattle.std.specs.FinMap as map
use Rattle.cg_heap.specs.declared.cell.Cell.{Cell}
use Rattle.cg_heap.specs.Stored.{Stored}

-- the cells of these entries, and this top
abbrev pub mapped : List (ℕ × Cell) → ℕ → Stored
mapped entries top = record { cells = map.from_entries entries; top = top }
