-- The cells of a heap file, each with its address (docs/LANGUAGE.md, "Heap files").
use Rattle.std.specs.Prelude.{◌≡◌, ℕ, ◌^◌, ◌<◌, ◌||◌, nat_eq, Bool, true, List, [], ◌∷◌, map, slice_get, Option, Some, None, if◌then◌else◌}
use Rattle.cg_base.specs.declared.place.Place.{Place}
use Rattle.cg_base.specs.Types.{Tau, type_of}
use Rattle.cg_heap.specs.declared.cell.Cell.{Cell as Held}
use Rattle.cg_heaptext_cells.specs.Cells.{IsAbove}
use Rattle.cg_heaptext_contents.specs.declared.placing.Placed.{Placed}
use Rattle.cg_heaptext_contents.specs.declared.placing.Placing.{Placing}
use Rattle.cg_heaptext_def.specs.HeapText.{IsLarge, most_entries, numbers_in, placed, read_at}
use Rattle.cg_heaptext_def.specs.Reading.{held_at}
use Rattle.cg_heaptext_def.specs.Small.{is_small_cell, most_word}
use Rattle.cg_heaptext_def.specs.Trees.{Entry, Heap, amount}
use Rattle.cg_heaptext_judge_notes.specs.declared.notes.Mentioned.{Mentioned}
use Rattle.cg_heaptext_places.specs.Noted.{IsLeast}

-- the type of the first mention of an entry, by its position
abbrev pub read_type : List Mentioned → ℕ → Option Tau
read_type [] i = None
read_type (m ∷ ms) i = if nat_eq m.entry i then Some (type_of m.ty.now) else read_type ms i

-- the cells of entries are read first at the types of these mentions
abbrev pub AreRead : Heap → Tau → List Mentioned → Type 0
AreRead h t ms = (i : ℕ) (e : Entry) → slice_get h.entries i ≡ Some e → read_type ms i ≡ read_at h t (amount e.address)

-- an entry is one too many, or its array has too many elements
abbrev pub is_too_large : ℕ → Bool → Bool
is_too_large i many = nat_eq i most_entries || many

abbrev pub pair_of : Placed → ℕ × Held
pair_of p = (p.at, p.cell)

-- a number above 2^64 - 1 stands at this place, in a cell that nobody reads
pub record IsOverUnread (h : Heap) (t : Tau) (place : Place) : Type 0 where
  pub i : ℕ
  pub entry : Entry
  pub there : slice_get h.entries i ≡ Some entry
  pub unread : read_at h t (amount entry.address) ≡ None
  pub above : IsAbove most_word (numbers_in entry.cell) place

-- machine words hold all addresses of entries and all that their cells hold
abbrev pub AreSmall : Heap → Tau → Type 0
AreSmall h t = (i : ℕ) (e : Entry) → slice_get h.entries i ≡ Some e → (amount e.address < 2 ^ 64) × (is_small_cell (held_at (read_at h t (amount e.address)) e.cell) ≡ true)

pub record IsPlacing (h : Heap) (t : Tau) (p : Placing) : Type 0 where
  pub over : IsLeast (IsOverUnread h t) p.over
  pub large : IsLeast (IsLarge h) p.large
  pub cells : AreSmall h t → map pair_of p.cells ≡ placed h t
