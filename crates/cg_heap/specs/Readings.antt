-- The value that scalars represent, computed: where they represent none it is some value.
use Rattle.std.specs.Prelude.{ℕ, zero, suc, Bool, cond, List, [], ◌∷◌, map, take, drop, Option, Some}
use Rattle.cg_base.specs.Types.{Tau, var, seen, unit, word, bool, arrow, abs, variant, fields, Taus, none, more, Parts, end, part}
use Rattle.cg_base.specs.declared.kind.Sigil.{Sigil}
use Rattle.cg_base.specs.declared.kind.Sigil.TheVariants.{R, W, U}
use Rattle.cg_heap.specs.declared.cell.Cell.{Cell}
use Rattle.cg_heap.specs.declared.cell.Cell.TheVariants.{Slots, Words, Answers}
use Rattle.cg_heap.specs.declared.cell.Scalar.{Scalar}
use Rattle.cg_heap.specs.declared.cell.Scalar.TheVariants.{Word}
use Rattle.cg_heap.specs.Reps.{Heap, slots, first_address, first_number, number_of, tail}
use Rattle.cg_value.specs.Values.{Val, number, nothing, chosen, parts, elements, answers, gone, to_vals}

-- what a cell holds, as scalars; a list of answers holds none
abbrev pub scalars_of : Cell → List Scalar
scalars_of (Slots ss) = ss
scalars_of (Words ns) = map Word ns
scalars_of (Answers bs) = []

abbrev pub answers_of : Cell → List Bool
answers_of (Slots ss) = []
answers_of (Words ns) = []
answers_of (Answers bs) = bs

abbrev pub held_scalars : Option Cell → List Scalar
held_scalars (Some c) = scalars_of c
held_scalars _ = []

abbrev pub held_answers : Option Cell → List Bool
held_answers (Some c) = answers_of c
held_answers _ = []

-- a cell as a value of an abstract type: answers where it has no arguments, else elements
abbrev pub abstract_at : Taus → Option Cell → Val
abstract_at none o = answers (held_answers o)
abstract_at (more t ts) o = elements (map number_of (held_scalars o))

module _ (h : Heap) where
  -- where the fields of a record stand
  abbrev pub fields_at : Sigil → List Scalar → List Scalar
  fields_at U us = us
  fields_at R us = held_scalars (h (first_address us))
  fields_at W us = held_scalars (h (first_address us))

  unfoldable mutual
    pub value_at : Tau → List Scalar → Val
    value_at (var n) us = gone
    value_at (seen n) us = gone
    value_at unit us = nothing
    value_at (word w) us = number (first_number us)
    value_at bool us = number (first_number us)
    value_at (arrow a b) us = gone
    value_at (abs name args sigil) us = abstract_at args (h (first_address us))
    value_at (variant ps) us = alternative_at ps (first_number us) (tail us)
    value_at (fields ps sigil) us = parts (to_vals (values_at ps (fields_at sigil us)))

    -- the fields, one behind the other
    pub values_at : Parts → List Scalar → List Val
    values_at end us = []
    values_at (part name t taken ps) us = cond taken gone (value_at t (take (slots t) us)) ∷ values_at ps (drop (slots t) us)

    -- the alternative at a place, with its payload
    pub alternative_at : Parts → ℕ → List Scalar → Val
    alternative_at end i us = gone
    alternative_at (part name t taken ps) zero us = chosen name (value_at t (take (slots t) us))
    alternative_at (part name t taken ps) (suc i) us = alternative_at ps i (drop (slots t) us)
