-- What is asked of one value or of one cell as it is read (docs/LANGUAGE.md, "Heap files").
use Rattle.std.specs.Prelude.{◌≡◌, ℕ, Bool, true, false, ◌&&◌, List, [], ◌∷◌, map, Option, Some, None, Result, Ok, Err, ⊤}
use Rattle.cg_base.specs.declared.kind.Sigil.TheVariants.{U}
use Rattle.cg_base.specs.declared.kind.Word.{Word}
use Rattle.cg_base.specs.declared.place.Place.{Place}
use Rattle.cg_base.specs.declared.ty.Part.{Part}
use Rattle.cg_base.specs.Types.{Parts, Taus, none, more, part_of, to_parts, word}
use Rattle.cg_heaptext_cells.specs.declared.list.Mark.{Mark}
use Rattle.cg_heaptext_cells.specs.declared.list.Mark.TheVariants.{Item, Comma, Over}
use Rattle.cg_heaptext_def.specs.Reading.{Event, misfit, as_many, have_names, is_array_name, is_system}
use Rattle.cg_heaptext_def.specs.Trees.{Numeral, Written, tuple, record', listed, names_in}
use Rattle.cg_heaptext_judge_def.specs.Judging.{counting}
use Rattle.cg_heaptext_judge_notes.specs.declared.fault.JudgeFault.{JudgeFault}
use Rattle.cg_heaptext_judge_notes.specs.declared.fault.JudgeFault.TheVariants.{Misfit}
use Rattle.cg_value.specs.Printed.{is_tuple}

-- the parts of a type
abbrev pub pieces : List Part → Parts
pieces ps = to_parts (map part_of ps)

-- nothing was met, or what doesn't fit, at the place that is told
abbrev pub Fits : List Event → Result ⊤ JudgeFault → Type 0
Fits [] (Ok _) = ⊤
Fits (misfit p ∷ es) (Err (Misfit place)) = place ≡ p
Fits _ _ = ⊥

-- the earliest number that passes its type, with numbers more
abbrev pub counted_all : Option Place → List Numeral → ℕ → Option Place
counted_all over [] bound = over
counted_all over (n ∷ ns) bound = counted_all (counting over n bound) ns bound

-- an item of a list, and the comma between two
abbrev pub is_item_mark : Mark → Bool
is_item_mark Item = true
is_item_mark Comma = false
is_item_mark Over = false

abbrev pub is_comma_mark : Mark → Bool
is_comma_mark Item = false
is_comma_mark Comma = true
is_comma_mark Over = false

-- a type that is declared beforehand is an array of this word, or none of words
abbrev pub IsWordOf : List ℕ → Taus → Option Word → Type 0
IsWordOf name ts (Some w) = (ts ≡ more (word w) none) × (is_array_name name ≡ true)
IsWordOf name ts None = (w : Word) → ts ≡ more (word w) none → is_array_name name ≡ false

-- it is an allocator
abbrev pub is_allocator_of : List ℕ → Taus → Bool
is_allocator_of name none = is_system name
is_allocator_of name (more t ts) = false

-- a value is an unboxed record of these fields
abbrev pub fits_fields : Parts → Written → Bool
fits_fields ps (tuple p vs) = is_tuple ps U && as_many ps (listed vs)
fits_fields ps (record' p fs) = have_names ps (names_in fs)
fits_fields ps _ = false
