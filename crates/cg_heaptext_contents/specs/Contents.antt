-- What the cell of an entry holds (docs/LANGUAGE.md, "Heap files").
use Rattle.std.specs.Prelude.{◌≡◌, nat_lt, Bool, true, false, length, Option, Some, None, ⊤}
use Rattle.cg_base.specs.declared.kind.Sigil.{Sigil}
use Rattle.cg_base.specs.Types.{Tau, Parts, fields}
use Rattle.cg_heaptext_cells.specs.Cells.{IsAbove}
use Rattle.cg_heaptext_contents.specs.declared.content.Content.{Content}
use Rattle.cg_heaptext_def.specs.HeapText.{numbers_in}
use Rattle.cg_heaptext_def.specs.Reading.{held_at}
use Rattle.cg_heaptext_def.specs.Small.{is_small_cell, most_word}
use Rattle.cg_heaptext_def.specs.Trees.{Cell, slots, elements, answers}
use Rattle.cg_heaptext_places.specs.Noted.{IsLeast}
use Rattle.cg_value.specs.Fits.{most_elements}

-- the forms of cells
abbrev pub AreSlots : Cell → Type 0
AreSlots (slots p fs) = ⊤
AreSlots c = ⊥

abbrev pub IsArray : Cell → Type 0
IsArray (elements p ns) = ⊤
IsArray c = ⊥

abbrev pub AreAnswers : Cell → Type 0
AreAnswers (answers p bs) = ⊤
AreAnswers c = ⊥

-- an array has more elements than it may
abbrev pub has_many : Cell → Bool
has_many (elements p ns) = nat_lt most_elements (length ns)
has_many c = false

-- a record type has these parts, and another type isn't one
abbrev pub IsRecord : Tau → Parts → Type 0
IsRecord t ps = (s : Sigil) × (t ≡ fields ps s)

abbrev pub IsNoRecord : Tau → Type 0
IsNoRecord (fields ps s) = ⊥
IsNoRecord _ = ⊤

abbrev pub IsNoRecordAt : Option Tau → Type 0
IsNoRecordAt None = ⊤
IsNoRecordAt (Some t) = IsNoRecord t

-- This is what a cell holds that is read at this type, or by nobody: where that fits machine words; and what is told of its numbers, where
-- nobody reads it, and of its elements.
pub record IsContent (t : Option Tau) (c : Cell) (content : Content) : Type 0 where
  pub cell : is_small_cell (held_at t c) ≡ true → content.cell ≡ held_at t c
  pub over : t ≡ None → IsLeast (IsAbove most_word (numbers_in c)) content.over
  pub many : content.many ≡ has_many c

-- the same of slots that no record type tells
abbrev pub IsLoose : Cell → Content → Type 0
IsLoose c content = (t : Option Tau) → IsNoRecordAt t → IsContent t c content
