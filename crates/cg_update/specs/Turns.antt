-- Iterators on machine values: the indices of their turns, what a turn is asked, and what comes of what it gives (docs/LANGUAGE.md,
-- "Evaluation"). The argument is an unboxed record, of which a field's scalars are found by its place: `map` and `fold` have an array at
-- 0 and the bounds at 1 and 2, `seq` the bounds at 0 and 1 and the step at 2, and each the function at 3, what is handed on at 4 and what
-- is observed at 5.
use Rattle.std.specs.Prelude.{ℕ, Bool, true, false, codes, List, [], ◌∷◌, ◌++◌, get_or, length, min, nat_eq, unwrap_or, if◌then◌else◌}
use Rattle.cg_base.specs.declared.fun.Lib.{Lib}
use Rattle.cg_base.specs.declared.fun.Lib.TheVariants.{Map, Fold, Seq32Break}
use Rattle.cg_base.specs.Types.{Tau, variant, fields, Parts, end}
use Rattle.cg_heap.specs.declared.cell.Scalar.{Scalar}
use Rattle.cg_heap.specs.declared.cell.Scalar.TheVariants.{Word}
use Rattle.cg_heap.specs.Reps.{first_address, first_number}
use Rattle.cg_heap.specs.Stored.{Stored, cell_at, changed, with_element}
use Rattle.cg_lib_heap.specs.Library.{words_at}
use Rattle.cg_lib_value.specs.Library.{first_type}
use Rattle.cg_eval_operations.specs.Iterators.{indices_from}
use Rattle.cg_eval_operations.specs.Positions.{position_among}
use Rattle.cg_typing.specs.Parts.{given_by}
use Rattle.cg_update.specs.Calls.{are_words}
use Rattle.cg_update.specs.Machines.{only_at, part_at, type_of_part}
use Rattle.cg_update.specs.Outcomes.{State, Outcome, gives, bind, pay, where_true, with_store}

-- the fields of a record, and the alternatives of a variant
abbrev pub fields_in : Tau → Parts
fields_in (fields ps sigil) = ps
fields_in t = end

abbrev pub alternatives_in : Tau → Parts
alternatives_in (variant ps) = ps
alternatives_in t = end

-- a field's type, and its scalars; none where they aren't there
abbrev pub field_type : Tau → ℕ → Tau
field_type t i = type_of_part i (fields_in t)

abbrev pub field_of : Tau → List Scalar → ℕ → List Scalar
field_of t us i = unwrap_or (part_at i (fields_in t) us) []

-- an alternative's place by its name, and a value of it
abbrev pub place_in : List ℕ → Tau → ℕ
place_in name t = position_among name (alternatives_in t)

abbrev pub chosen_in : List ℕ → Tau → List Scalar → List Scalar
chosen_in name t us = Word (place_in name t) ∷ only_at (place_in name t) (alternatives_in t) us

-- ---- the argument

-- an argument of a type
pub record Argument : Type 0 where
  pub ty : Tau
  pub scalars : List Scalar

abbrev pub field_in : Argument → ℕ → List Scalar
field_in x i = field_of x.ty x.scalars i

abbrev pub array_in : Argument → ℕ
array_in x = first_address (field_in x 0)

abbrev pub elements_now : Argument → Stored → List ℕ
elements_now x m = words_at (array_in x) m

-- what a turn gives is of this type
abbrev pub turn_type : Argument → Tau
turn_type x = given_by (field_type x.ty 3)

-- the indices of the turns
abbrev pub indices : Lib → Argument → Stored → List ℕ
indices Map x m = indices_from (first_number (field_in x 1)) (min (first_number (field_in x 2)) (length (elements_now x m))) 1
indices Fold x m = indices_from (first_number (field_in x 1)) (min (first_number (field_in x 2)) (length (elements_now x m))) 1
indices lib x m = indices_from (first_number (field_in x 0)) (first_number (field_in x 1)) (first_number (field_in x 2))

-- ---- turns

-- what the turn at an index is asked, where `us` is handed on
abbrev pub asked : Lib → Argument → ℕ → List Scalar → Stored → List Scalar
asked Map x i us m = Word (get_or (elements_now x m) i 0) ∷ us ++ field_in x 5
asked Fold x i us m = Word (get_or (elements_now x m) i 0) ∷ us ++ field_in x 5
asked lib x i us m = us ++ field_in x 5 ++ Word i ∷ []

-- the array, where it walks over one, is there
abbrev pub has_array : Lib → List Tau → Argument → Stored → Bool
has_array Map types x m = are_words (first_type types) (cell_at m (array_in x))
has_array Fold types x m = are_words (first_type types) (cell_at m (array_in x))
has_array lib types x m = true

-- a turn that gave this is the last
abbrev pub stops : Lib → Argument → List Scalar → Bool
stops Seq32Break x us = nat_eq (first_number (field_of (turn_type x) us 1)) (place_in (codes "Break") (field_type (turn_type x) 1))
stops lib x us = false

-- the heap for the next turn, by what the turn at an index gave: `map` writes the new element
abbrev pub written : Lib → Argument → ℕ → List Scalar → Stored → Stored
written Map x i us m = changed (with_element i (first_number (field_of (turn_type x) us 0))) (array_in x) m
written lib x i us m = m

-- what is handed on to the next turn
abbrev pub carried : Lib → Argument → List Scalar → List Scalar
carried Map x us = field_of (turn_type x) us 1
carried Seq32Break x us = field_of (turn_type x) us 0
carried lib x us = us

-- what is given where no turn was the last
abbrev pub ended : Lib → Argument → List Scalar → List Scalar
ended Map x us = field_in x 0 ++ us
ended Seq32Break x us = us ++ chosen_in (codes "Iterate") (field_type (turn_type x) 1) (Word 0 ∷ [])
ended lib x us = us

-- Turns, each of which takes 1 beside its function's body. The array is there before each.
unfoldable pub turns : (List Scalar → State → ℕ → Outcome) → Lib → List Tau → Argument → List ℕ → List Scalar → State → ℕ → Outcome
turns call lib types x [] us s left = gives (ended lib x us) s left
turns call lib types x (i ∷ is) us s left = pay left (λ paid. bind (call (asked lib x i us s.store) s paid) (λ ws t rest.
    where_true (has_array lib types x t.store)
    (if stops lib x ws then gives ws t rest else turns call lib types x is (carried lib x ws) (with_store (written lib x i ws t.store) t) rest)))
