-- What a store holds, and what each call changes (docs/LANGUAGE.md, "Layout").
use Rattle.std.specs.Prelude.{◌≡◌, ℕ, ◌+◌, ◌<◌, ◌≤◌, ◌^◌, max, nat_lt, Bool, ◌∷◌, length, replicate, slice_get, slice_set, Option, Some, None, if◌then◌else◌}
use Rattle.std.specs.FinMap as map
use Rattle.std.specs.FinMap.{FinMap}
use Rattle.std.specs.Option.{option_map}
use Rattle.std.specs.Ordering.{nat_cmp}
use Rattle.cg_heap.specs.declared.cell.Cell.{Cell}
use Rattle.cg_heap.specs.declared.cell.Cell.TheVariants.{Slots, Words, Answers}
use Rattle.cg_heap.specs.declared.cell.Form.{Form}
use Rattle.cg_heap.specs.declared.cell.Form.TheVariants as form
use Rattle.cg_heap.specs.declared.cell.Fresh.{Fresh}
use Rattle.cg_heap.specs.declared.cell.Fresh.TheVariants as fresh
use Rattle.cg_heap.specs.declared.cell.Scalar.{Scalar}
use Rattle.cg_heap.specs.declared.cell.Scalar.TheVariants.{Unset, Word}

-- the cells by their addresses, and a number that is at least every address ever held
pub record Stored : Type 0 where
  pub cells : FinMap nat_cmp Cell
  pub top : ℕ

abbrev pub cell_at : Stored → ℕ → Option Cell
cell_at s p = map.get s.cells p

-- ---- what is asked of a cell

abbrev pub cell_length : Cell → ℕ
cell_length (Slots ss) = length ss
cell_length (Words ns) = length ns
cell_length (Answers bs) = length bs

-- what it holds
abbrev pub form_of : Cell → Form
form_of (Slots ss) = form.Slots
form_of (Words ns) = form.Words
form_of (Answers bs) = form.Answers

-- a slot as it stands, or an element as a word; a list of answers has neither
abbrev pub slot_of : ℕ → Cell → Option Scalar
slot_of i (Slots ss) = slice_get ss i
slot_of i (Words ns) = option_map Word (slice_get ns i)
slot_of i (Answers bs) = None

-- an answer, counted among those that are left
abbrev pub answer_of : ℕ → Cell → Option Bool
answer_of i (Answers bs) = slice_get bs i
answer_of i _ = None

-- ---- what is made of a cell

-- with one slot written; None where it has no such slot
abbrev pub with_slot : ℕ → Scalar → Cell → Option Cell
with_slot i x (Slots ss) = if nat_lt i (length ss) then Some (Slots (slice_set ss i x)) else None
with_slot i x _ = None

-- with one element written; None where it has no such element
abbrev pub with_element : ℕ → ℕ → Cell → Option Cell
with_element i n (Words ns) = if nat_lt i (length ns) then Some (Words (slice_set ns i n)) else None
with_element i n _ = None

-- without its first answer; None where it has none
abbrev pub without_answer : Cell → Option Cell
without_answer (Answers (b ∷ bs)) = Some (Answers bs)
without_answer _ = None

abbrev pub fresh_cell : Fresh → Cell
fresh_cell (fresh.Slots n) = Slots (replicate n Unset)
fresh_cell (fresh.Words n) = Words (replicate n 0)

-- ---- what is asked of a store, and what is made of it

abbrev pub in_cell : {A : Type 0} → (Cell → Option A) → Option Cell → Option A
in_cell f (Some c) = f c
in_cell f None = None

abbrev pub asked_of : {A : Type 0} → (Cell → Option A) → ℕ → Stored → Option A
asked_of f p s = in_cell f (cell_at s p)

-- with the changed cell in the place of the one that was there; the same where there is none
abbrev pub in_place : ℕ → Option Cell → Stored → Stored
in_place p (Some c) s = record { cells = map.insert s.cells p c; top = s.top }
in_place p None s = s

abbrev pub changed : (Cell → Option Cell) → ℕ → Stored → Stored
changed f p s = in_place p (asked_of f p s) s

-- with a new cell, at the address above all that were ever held
abbrev pub with_fresh : Fresh → Stored → Stored
with_fresh f s = record { cells = map.insert s.cells (s.top + 1) (fresh_cell f); top = s.top + 1 }

-- with this cell at an address
abbrev pub with_cell : ℕ → Cell → Stored → Stored
with_cell p c s = record { cells = map.insert s.cells p c; top = max s.top p }

abbrev pub without_cell : ℕ → Stored → Stored
without_cell p s = record { cells = map.remove s.cells p; top = s.top }

-- each cell stands at an address from 1 to top, and is shorter than 2^32
pub record IsSound (s : Stored) : Type 0 where
  pub within : (p : ℕ) (c : Cell) → cell_at s p ≡ Some c → p ≤ s.top
  pub no_null : cell_at s 0 ≡ None
  pub short : (p : ℕ) (c : Cell) → cell_at s p ≡ Some c → cell_length c < 2 ^ 32
  pub small : s.top < 2 ^ 64
