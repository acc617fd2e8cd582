-- The library on heaps, one line a function, for those that take no function (docs/LANGUAGE.md, "The library").
use Rattle.std.specs.Prelude.{◌≡◌, ℕ, ◌+◌, Bool, true, false, ◌&&◌, nat_le, List, [], ◌∷◌, length, get_or, unwrap_or, Option, Some}
use Rattle.cg_base.specs.declared.fun.Lib.{Lib}
use Rattle.cg_base.specs.declared.fun.Lib.TheVariants.{New, Free, Create, FreeArray, Length, Get, Put}
use Rattle.cg_base.specs.Types.{Tau, fields}
use Rattle.cg_heap.specs.Calls.{Out}
use Rattle.cg_heap.specs.declared.cell.Cell.{Cell}
use Rattle.cg_heap.specs.declared.cell.Cell.TheVariants.{Words}
use Rattle.cg_heap.specs.declared.cell.Fresh.{Fresh}
use Rattle.cg_heap.specs.declared.cell.Fresh.TheVariants as fresh
use Rattle.cg_heap.specs.declared.cell.Scalar.{Scalar}
use Rattle.cg_heap.specs.declared.cell.Scalar.TheVariants.{Unset, Word, Address}
use Rattle.cg_heap.specs.Reps.{address_of, first_address, head, number_of, slots_of_parts, tail}
use Rattle.cg_heap.specs.Stored.{Stored, answer_of, asked_of, cell_at, changed, with_element, with_fresh, without_answer, without_cell}
use Rattle.cg_lib_value.specs.Library.{first_type}
use Rattle.cg_value.specs.Fits.{most_elements}

-- ---- the argument's scalars

abbrev pub second : List Scalar → Scalar
second us = head (tail us)

abbrev pub third : List Scalar → Scalar
third us = head (tail (tail us))

-- ---- what is asked of the store

-- the next answer of an allocator; no where none is left
abbrev pub next_at : ℕ → Stored → Bool
next_at p s = unwrap_or (asked_of (answer_of 0) p s) false

abbrev pub words_in : Option Cell → List ℕ
words_in (Some (Words ns)) = ns
words_in _ = []

abbrev pub words_at : ℕ → Stored → List ℕ
words_at p s = words_in (cell_at s p)

-- an array stands at an address
abbrev pub HasWords : ℕ → Stored → Type 0
HasWords p s = cell_at s p ≡ Some (Words (words_at p s))

-- the array that a function reads is there
abbrev pub HasArray : Lib → List Scalar → Stored → Type 0
HasArray Length us s = HasWords (first_address us) s
HasArray Get us s = HasWords (first_address us) s
HasArray _ us s = Unit {0}

-- how many slots the cell of a record has
abbrev pub record_slots : Tau → ℕ
record_slots (fields ps sigil) = slots_of_parts ps
record_slots _ = 0

-- ---- what is given

abbrev pub kept : List Scalar → Stored → Out
kept us s = record { result = us; store = s; made = []; freed = [] }

-- the allocator, and what was made, if it was: the place of None or Some, a slot for the payload of the one and one for that of the other
abbrev pub granted : ℕ → Bool → Fresh → Stored → Out
granted p true f s = record { result = Address p ∷ Word 1 ∷ Unset ∷ Address (s.top + 1) ∷ []; store = with_fresh f s; made = (s.top + 1) ∷ []; freed = [] }
granted p false f s = kept (Address p ∷ Word 0 ∷ Word 0 ∷ Unset ∷ []) s

abbrev pub freed_at : ℕ → ℕ → Stored → Out
freed_at p q s = record { result = Address p ∷ []; store = without_cell q s; made = []; freed = q ∷ [] }

-- what a function gives; of one that takes a function, nothing
abbrev pub library_heap : Lib → List Tau → List Scalar → Stored → Out
library_heap New args us s =
    granted (first_address us) (next_at (first_address us) s) (fresh.Slots (record_slots (first_type args))) (changed without_answer (first_address us) s)
library_heap Free args us s = freed_at (first_address us) (address_of (second us)) s
library_heap Create args us s =
    granted (first_address us) (next_at (first_address us) s && nat_le (number_of (second us)) most_elements) (fresh.Words (number_of (second us)))
    (changed without_answer (first_address us) s)
library_heap FreeArray args us s = freed_at (first_address us) (address_of (second us)) s
library_heap Length args us s = kept (Word (length (words_at (first_address us) s)) ∷ []) s
library_heap Get args us s = kept (Word (get_or (words_at (first_address us) s) (number_of (second us)) 0) ∷ []) s
library_heap Put args us s = kept (Address (first_address us) ∷ []) (changed (with_element (number_of (second us)) (number_of (third us))) (first_address us) s)
library_heap _ args us s = kept [] s
