-- What is asked of one cell of a heap file, where no type is known (docs/LANGUAGE.md, "Heap files").
use Rattle.std.specs.Prelude.{◌≡◌, ℕ, ◌<◌, List, codes, slice_get, Some, if◌then◌else◌}
use Rattle.std.specs.Str.{bytes_eq}
use Rattle.cg_base.specs.declared.place.Place.{Place}
use Rattle.cg_heaptext_def.specs.Trees as trees
use Rattle.cg_heaptext_def.specs.Trees.{Numeral, amount, Cell}
use Rattle.cg_heaptext_cells.specs.declared.cell.CellForm.{CellForm}
use Rattle.cg_heaptext_cells.specs.declared.cell.CellForm.TheVariants.{Slots, Elements, Answers}

-- the form of a cell
abbrev pub form_of : Cell → CellForm
form_of (trees.slots p fs) = Slots
form_of (trees.elements p ns) = Elements
form_of (trees.answers p bs) = Answers

-- and that of the cell which a bracket opens
abbrev pub sign_form : List ℕ → CellForm
sign_form x = if bytes_eq x (codes "{") then Slots else if bytes_eq x (codes "[") then Elements else Answers

-- a number that is above a bound stands at this place
abbrev pub IsAbove : ℕ → List Numeral → Place → Type 0
IsAbove most ns place = (i : ℕ) × (n : Numeral) × (slice_get ns i ≡ Some n) × (most < amount n) × (place ≡ n.place)
