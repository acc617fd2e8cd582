-- What a store holds once the cells of a heap file were put into it (docs/LANGUAGE.md, "Heap files").
use Rattle.std.specs.Prelude.{◌≡◌, ℕ, max, List, [], ◌∷◌}
use Rattle.cg_heap.specs.declared.cell.Cell.{Cell as Held}
use Rattle.cg_heap.specs.Stored.{Stored, cell_at}
use Rattle.cg_heaptext_def.specs.Footprints.{held_in}

-- the greatest address, and 0 where there is none
abbrev pub greatest : List (ℕ × Held) → ℕ
greatest [] = 0
greatest (c ∷ cs) = max c.0 (greatest cs)

-- A store holds just these cells, and its top is the greatest of their addresses.
pub record IsFilled (cells : List (ℕ × Held)) (s : Stored) : Type 0 where
  pub holds : (q : ℕ) → cell_at s q ≡ held_in cells q
  pub top : s.top ≡ greatest cells
