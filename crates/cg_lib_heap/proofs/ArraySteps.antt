-- Arrays in stores.
use Rattle.std.proofs.Common.{rules, ◌≡◌, ℕ, zero, suc, ◌≤◌, Bool, true, List, [], ◌∷◌, length, refl, ap, ◌∙◌, arith}
use Rattle.std.specs.Prelude.{get_or, slice_get}
use Rattle.std.specs.Option.{option_map, unwrap_or}
use Rattle.std.specs.declared.option.Option.{Option}
use Rattle.std.specs.declared.option.Option.TheVariants.{None, Some}
use Rattle.cg_heap.specs.declared.cell.Cell.{Cell}
use Rattle.cg_heap.specs.declared.cell.Cell.TheVariants.{Slots, Words, Answers}
use Rattle.cg_heap.specs.Stored.{Stored, asked_of, cell_at, cell_length, changed, in_cell, in_place, slot_of, with_element}
use Rattle.cg_heap.specs.declared.cell.Scalar.TheVariants.{Unset, Word}
use Rattle.cg_heap.specs.Reps.{number_of}
use Rattle.cg_lib_heap.specs.Library.{HasWords, words_at}

-- what isn't there isn't written
not_written : (b : Bool) (i n : ℕ) (o : Option Cell) → unwrap_or (option_map cell_length o) 0 ≤ i → in_cell (with_element i n) o ≡ None
not_written b i n None over = refl
not_written b i n (Some (Slots ss)) over = refl
not_written b i n (Some (Answers bs)) over = refl
not_written b i n (Some (Words ns)) over = search (rules, arith)

pub nothing_written : (p i n : ℕ) (s : Stored) → unwrap_or (option_map cell_length (cell_at s p)) 0 ≤ i → changed (with_element i n) p s ≡ s
nothing_written p i n s over = ap (λ o. in_place p o s) (not_written true i n (cell_at s p) over)

-- an element, as it is read

word_is : (ns : List ℕ) (i : ℕ) → number_of (unwrap_or (option_map Word (slice_get ns i)) Unset) ≡ get_or ns i 0
word_is [] i = refl
word_is (n ∷ ns) zero = refl
word_is (n ∷ ns) (suc i) = word_is ns i

pub element_is : (p i : ℕ) (s : Stored) → HasWords p s → number_of (unwrap_or (asked_of (slot_of i) p s) Unset) ≡ get_or (words_at p s) i 0
element_is p i s has = ap (λ o. number_of (unwrap_or (in_cell (slot_of i) o) Unset)) has ∙ word_is (words_at p s) i

pub length_is : (p : ℕ) (s : Stored) → HasWords p s → option_map cell_length (cell_at s p) ≡ Some (length (words_at p s))
length_is p s has = ap (option_map cell_length) has

pub ruleset array_steps = (nothing_written, element_is, length_is)
