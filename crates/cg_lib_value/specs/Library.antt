-- The library on values, one line a function, for those that take no function (docs/LANGUAGE.md, "The library").
use Rattle.std.specs.Prelude.{ℕ, zero, Bool, true, false, ◌&&◌, nat_le, List, [], ◌∷◌, codes, length, get_or, replicate, if◌then◌else◌}
use Rattle.cg_base.specs.declared.fun.Lib.{Lib}
use Rattle.cg_base.specs.declared.fun.Lib.TheVariants.{New, Free, Create, FreeArray, Length, Get, Put}
use Rattle.cg_base.specs.Types.{Tau, unit, fields, piece_list}
use Rattle.cg_value.specs.Fits.{most_elements}
use Rattle.cg_value.specs.Forms.{answers_in, elements_in, field, number_in, pair, with_element}
use Rattle.cg_value.specs.Values.{Val, number, nothing, chosen, parts, elements, answers, gone, to_vals}

-- the next answer of an allocator, no where none is left, and those behind it
unfoldable pub next_answer : List Bool → Bool
next_answer [] = false
next_answer (b ∷ bs) = b

unfoldable pub later_answers : List Bool → List Bool
later_answers [] = []
later_answers (b ∷ bs) = bs

-- what was made, if it was
abbrev pub maybe : Bool → Val → Val
maybe true made = chosen (codes "Some") made
maybe false made = chosen (codes "None") nothing

-- an allocator with its answer taken off, and what was made, if it was
abbrev pub answered : List Bool → Bool → Val → Val
answered bs granted made = pair (answers (later_answers bs)) (maybe granted made)

-- a new record, of which all fields are gone
unfoldable pub new_record : Tau → Val
new_record (fields ps sigil) = parts (to_vals (replicate (length (piece_list ps)) gone))
new_record _ = gone

-- a new array is made: the answer is yes, and it isn't too long
abbrev pub makes_array : List Bool → ℕ → Bool
makes_array bs n = next_answer bs && nat_le n most_elements

-- the first type argument
abbrev pub first_type : List Tau → Tau
first_type args = get_or args zero unit

-- what a function gives; of one that takes a function, that it is gone
abbrev pub library_value : Lib → List Tau → Val → Val
library_value New args x = answered (answers_in x) (next_answer (answers_in x)) (new_record (first_type args))
library_value Free args x = field x 0
library_value Create args x = answered (answers_in (field x 0)) (makes_array (answers_in (field x 0)) (number_in (field x 1))) (elements (replicate (number_in (field x 1)) 0))
library_value FreeArray args x = field x 0
library_value Length args x = number (length (elements_in x))
library_value Get args x = number (get_or (elements_in (field x 0)) (number_in (field x 1)) 0)
library_value Put args x = with_element (field x 0) (number_in (field x 1)) (number_in (field x 2))
library_value _ args x = gone

-- what it costs beside the nodes: 1 for each element that is made (docs/LANGUAGE.md, "Evaluation")
abbrev pub library_cost : Lib → Val → ℕ
library_cost Create x = if makes_array (answers_in (field x 0)) (number_in (field x 1)) then number_in (field x 1) else zero
library_cost _ x = zero
