-- Cells as they are put into a store, one by one.
use Rattle.std.specs.Prelude.{◌≡◌, ℕ, ◌<◌, ◌≤◌, ◌^◌, List, slice_get, Some}
use Rattle.cg_heap.specs.Stored.{cell_length}
use Rattle.cg_heap.specs.declared.cell.Cell.{Cell as Held}

-- Cells can be put into a store one by one: their addresses are apart and in range, and no cell is too long.
pub record CanBePlaced (cells : List (ℕ × Held)) : Type 0 where
  pub apart : (i j : ℕ) (c d : ℕ × Held) → slice_get cells i ≡ Some c → slice_get cells j ≡ Some d → c.0 ≡ d.0 → i ≡ j
  pub least : (i : ℕ) (c : ℕ × Held) → slice_get cells i ≡ Some c → 1 ≤ c.0
  pub most : (i : ℕ) (c : ℕ × Held) → slice_get cells i ≡ Some c → c.0 < 2 ^ 32
  pub short : (i : ℕ) (c : ℕ × Held) → slice_get cells i ≡ Some c → cell_length c.1 < 2 ^ 32
