-- The slots of a cell, by what it holds.
use Rattle.std.proofs.Common.{rules, ◌≡◌, [], refl}
use Rattle.std.specs.Option.{option_map}
use Rattle.std.specs.declared.option.Option.{Option}
use Rattle.std.specs.declared.option.Option.TheVariants.{None, Some}
use Rattle.cg_heap.specs.declared.cell.Cell.{Cell}
use Rattle.cg_heap.specs.declared.cell.Cell.TheVariants.{Slots, Words, Answers}
use Rattle.cg_heap.specs.declared.cell.Form.TheVariants as form
use Rattle.cg_heap.specs.Readings.{held_scalars}
use Rattle.cg_heap.specs.Reps.{slots_in}
use Rattle.cg_heap.specs.Stored.{form_of}

pub are_slots : (o : Option Cell) → option_map form_of o ≡ Some form.Slots → held_scalars o ≡ slots_in o
are_slots None e = absurd (search (rules, e))
are_slots (Some (Slots ss)) e = refl
are_slots (Some (Words ns)) e = absurd (search (rules, e))
are_slots (Some (Answers bs)) e = absurd (search (rules, e))

pub no_cell : (o : Option Cell) → option_map form_of o ≡ None → slots_in o ≡ []
no_cell None e = refl
no_cell (Some c) e = absurd (search (rules, e))

pub are_words : (o : Option Cell) → option_map form_of o ≡ Some form.Words → slots_in o ≡ []
are_words None e = refl
are_words (Some (Slots ss)) e = absurd (search (rules, e))
are_words (Some (Words ns)) e = refl
are_words (Some (Answers bs)) e = refl

pub are_answers : (o : Option Cell) → option_map form_of o ≡ Some form.Answers → slots_in o ≡ []
are_answers None e = refl
are_answers (Some (Slots ss)) e = absurd (search (rules, e))
are_answers (Some (Words ns)) e = refl
are_answers (Some (Answers bs)) e = refl

pub ruleset slot_steps = (are_slots, no_cell, are_words, are_answers)
