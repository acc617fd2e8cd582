-- What stands in a cell, by its form.
use Rattle.std.proofs.Common.{rules, ◌≡◌, ℕ, Bool, List, map, ap, ◌∙◌}
use Rattle.std.specs.Prelude.{Some}
use Rattle.cg_base.specs.declared.place.Place.{Place}
use Rattle.cg_heaptext_cells.specs.Cells.{form_of}
use Rattle.cg_heaptext_cells.specs.declared.cell.CellForm.TheVariants as form
use Rattle.cg_heaptext_def.specs.Reading.{value_within}
use Rattle.cg_heaptext_def.specs.Small.{capped_number}
use Rattle.cg_heaptext_def.specs.Trees as trees
use Rattle.cg_heaptext_def.specs.Trees.{Cell, Numeral, amount}
use Rattle.cg_heaptext_entries.specs.Index.{CellStands}
use Rattle.cg_heaptext_lexer.specs.Next.{Cursor}
use Rattle.cg_value.specs.declared.value.Value.{the_lemmas}
use Rattle.cg_value.specs.declared.value.Value.TheVariants.{Answers, Array, Unit}
use Rattle.cg_value.specs.Values as values
use Rattle.cg_value.specs.Values.{value_of}
use Rattle.cg_heaptext_value.specs.Capped.{capped_value}

pub unit_is : value_of Unit ≡ values.nothing
unit_is = search (rules, the_lemmas)

array_is : (ns : List ℕ) → value_of (Array ns) ≡ values.elements ns
array_is ns = search (rules, the_lemmas)

answers_are : (bs : List Bool) → value_of (Answers bs) ≡ values.answers bs
answers_are bs = search (rules, the_lemmas)

pub slots_within : (c : Cell) → form.Slots ≡ form_of c → value_of Unit ≡ capped_value (value_within (Some c))
slots_within (trees.slots p fs) e = unit_is
slots_within (trees.elements p ns) e = absurd (cc)
slots_within (trees.answers p bs) e = absurd (cc)

module _ (at : Cursor) where
  pub array_within : (xs : List ℕ) → ((p : Place) (ns : List Numeral) → CellStands at (trees.elements p ns) → xs ≡ map capped_number (map amount ns))
      → (c : Cell) → form.Elements ≡ form_of c → CellStands at c → value_of (Array xs) ≡ capped_value (value_within (Some c))
  array_within xs given (trees.slots p fs) e s = absurd (cc)
  array_within xs given (trees.elements p ns) e s = array_is xs ∙ ap values.elements (given p ns s)
  array_within xs given (trees.answers p bs) e s = absurd (cc)

  pub answers_within : (xs : List Bool) → ((p : Place) (bs : List Bool) → CellStands at (trees.answers p bs) → xs ≡ bs)
      → (c : Cell) → form.Answers ≡ form_of c → CellStands at c → value_of (Answers xs) ≡ capped_value (value_within (Some c))
  answers_within xs given (trees.slots p fs) e s = absurd (cc)
  answers_within xs given (trees.elements p ns) e s = absurd (cc)
  answers_within xs given (trees.answers p bs) e s = answers_are xs ∙ ap values.answers (given p bs s)
