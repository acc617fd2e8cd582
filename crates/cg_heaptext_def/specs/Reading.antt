-- How a written value is read by a type, depth first and from left to right: what it is, and what is judged on the way (docs/LANGUAGE.md, "Heap
-- files").
use Rattle.std.specs.Prelude.{ℕ, zero, suc, ◌^◌, Bool, true, false, ◌&&◌, not, List, [], ◌∷◌, ◌++◌, map, codes, replicate, Option, Some, None, if◌then◌else◌}
use Rattle.std.specs.Str.{bytes_eq}
use Rattle.cg_base.specs.declared.kind.Sigil.TheVariants.{R, W, U}
use Rattle.cg_base.specs.declared.place.Place.{Place}
use Rattle.cg_base.specs.Types.{Tau, unit, word, bool, abs, variant, fields, Taus, none, more, Parts, end, part}
use Rattle.cg_base.specs.Words.{bits}
use Rattle.cg_heap.specs.declared.cell.Cell.{Cell as Held}
use Rattle.cg_heap.specs.declared.cell.Cell.TheVariants.{Slots, Words, Answers}
use Rattle.cg_heap.specs.declared.cell.Scalar.{Scalar}
use Rattle.cg_heap.specs.declared.cell.Scalar.TheVariants.{Unset, Word, Address}
use Rattle.cg_heap.specs.Reps.{slots, slots_of_parts}
use Rattle.cg_value.specs.Printed.{is_tuple, is_unit}
use Rattle.cg_value.specs.Values as values
use Rattle.cg_value.specs.Values.{Val}
use Rattle.cg_heaptext_def.specs.Trees as written
use Rattle.cg_heaptext_def.specs.Trees.{Numeral, amount, Written, numeral, truth, nothing, gone, address, constant, applied, inside, tuple, record', Writtens, Fields, Cell, elements, answers, first, bare, first_of, listed, values_in, names_in}

-- what is met on the way: a value that doesn't fit its type, or a cell, by the place of its first token; a number, and the number below which its
-- type has it; a mention of a cell, by the place of its sign, the cell's address, and the type at which it is read
pub data Event : Type 0 where
  misfit : Place → Event
  counted : Numeral → ℕ → Event
  mention : Place → ℕ → Tau → Event

abbrev pub is_gone : Written → Bool
is_gone (gone p) = true
is_gone _ = false

-- the fields have these names, in order, and as many as these
abbrev pub have_names : Parts → List (List ℕ) → Bool
have_names end [] = true
have_names (part x t taken ps) (y ∷ ys) = bytes_eq x y && have_names ps ys
have_names _ _ = false

abbrev pub as_many : {A : Type 0} → Parts → List A → Bool
as_many end [] = true
as_many (part x t taken ps) (y ∷ ys) = as_many ps ys
as_many _ _ = false

abbrev pub is_system : List ℕ → Bool
is_system name = bytes_eq name (codes "SysState")

abbrev pub is_array_name : List ℕ → Bool
is_array_name name = bytes_eq name (codes "WordArray")

-- a cell of slots with the names of these fields, and the values in it
abbrev pub is_record : Parts → Option Cell → Bool
is_record ps (Some (written.slots p fs)) = have_names ps (names_in fs)
is_record ps _ = false

abbrev pub slot_values : Option Cell → List Written
slot_values (Some (written.slots p fs)) = values_in fs
slot_values _ = []

-- ---- what is met

-- a cell that is another one than its type asks for
abbrev pub misfit_cell : Option Cell → List Event
misfit_cell None = []
misfit_cell (Some c) = misfit (first_of c) ∷ []

-- the cell of an allocator, or of an array of words
abbrev pub events_within : List ℕ → Taus → Option Cell → List Event
events_within name none (Some (answers p bs)) = if is_system name then [] else misfit p ∷ []
events_within name (more (word w) none) (Some (elements p ns)) = if is_array_name name then map (λ n. counted n (2 ^ bits w)) ns else misfit p ∷ []
events_within name ts c = misfit_cell c

module _ (cells : ℕ → Option Cell) where
  unfoldable mutual
    -- what is met in a value without parentheses round it, whose first token, a parenthesis maybe, is at this place
    pub events : Tau → Place → Written → List Event
    events unit at (nothing p) = []
    events (word w) at (numeral n) = counted n (2 ^ bits w) ∷ []
    events bool at (truth p b) = []
    events (abs name ts R) at (address p n) = mention p (amount n) (abs name ts R) ∷ events_within name ts (cells (amount n))
    events (abs name ts W) at (address p n) = mention p (amount n) (abs name ts W) ∷ events_within name ts (cells (amount n))
    events (variant ps) at (constant p x) = events_bare ps at x
    events (variant ps) at (applied p x v) = events_applied ps at x v
    events (fields ps U) at (tuple p vs) = if is_tuple ps U && as_many ps (listed vs) then events_all ps (listed vs) else misfit at ∷ []
    events (fields ps U) at (record' p fs) = if have_names ps (names_in fs) then events_all ps (values_in fs) else misfit at ∷ []
    events (fields ps R) at (address p n) = mention p (amount n) (fields ps R) ∷ (if is_record ps (cells (amount n)) then events_all ps (slot_values (cells (amount n))) else misfit_cell (cells (amount n)))
    events (fields ps W) at (address p n) = mention p (amount n) (fields ps W) ∷ (if is_record ps (cells (amount n)) then events_all ps (slot_values (cells (amount n))) else misfit_cell (cells (amount n)))
    events t at v = misfit at ∷ []

    -- in fields, one behind the other; one that is taken stands as `_`
    pub events_all : Parts → List Written → List Event
    events_all (part x t true ps) (v ∷ vs) = (if is_gone (bare v) then [] else misfit (first v) ∷ []) ++ events_all ps vs
    events_all (part x t false ps) (v ∷ vs) = events t (first v) (bare v) ++ events_all ps vs
    events_all _ _ = []

    -- in a constructor that stands bare, which its payload has to be unit for; and in one with a payload
    pub events_bare : Parts → Place → List ℕ → List Event
    events_bare end at x = misfit at ∷ []
    events_bare (part y t taken ps) at x = if bytes_eq x y then (if not taken && is_unit t then [] else misfit at ∷ []) else events_bare ps at x

    pub events_applied : Parts → Place → List ℕ → Written → List Event
    events_applied end at x v = misfit at ∷ []
    events_applied (part y t taken ps) at x v = if bytes_eq x y then (if taken then misfit at ∷ [] else events t (first v) (bare v)) else events_applied ps at x v

-- ---- what it is, in scalars

abbrev pub bit_number : Bool → ℕ
bit_number true = 1
bit_number false = 0

-- with so many unset slots behind the first scalar, which is a number of an alternative
abbrev pub skipped : List Scalar → ℕ → List Scalar
skipped [] n = []
skipped (u ∷ us) n = u ∷ (replicate n Unset ++ us)

unfoldable mutual
  -- a value without parentheses round it
  pub scalars : Tau → Written → List Scalar
  scalars unit (nothing p) = Word 0 ∷ []
  scalars (word w) (numeral n) = Word (amount n) ∷ []
  scalars bool (truth p b) = Word (bit_number b) ∷ []
  scalars (abs name ts s) (address p n) = Address (amount n) ∷ []
  scalars (variant ps) (constant p x) = scalars_bare ps zero x
  scalars (variant ps) (applied p x v) = scalars_applied ps zero x v
  scalars (fields ps U) (tuple p vs) = scalars_all ps (listed vs)
  scalars (fields ps U) (record' p fs) = scalars_all ps (values_in fs)
  scalars (fields ps R) (address p n) = Address (amount n) ∷ []
  scalars (fields ps W) (address p n) = Address (amount n) ∷ []
  scalars t v = []

  -- fields, one behind the other; those that are taken are unset
  pub scalars_all : Parts → List Written → List Scalar
  scalars_all (part x t true ps) (v ∷ vs) = replicate (slots t) Unset ++ scalars_all ps vs
  scalars_all (part x t false ps) (v ∷ vs) = scalars t (bare v) ++ scalars_all ps vs
  scalars_all _ _ = []

  -- the number of an alternative, counted from this one on, and the slots of all, of which those of the others are unset
  pub scalars_bare : Parts → ℕ → List ℕ → List Scalar
  scalars_bare end i x = []
  scalars_bare (part y t taken ps) i x = if bytes_eq x y then Word i ∷ Word 0 ∷ replicate (slots_of_parts ps) Unset else skipped (scalars_bare ps (suc i) x) (slots t)

  pub scalars_applied : Parts → ℕ → List ℕ → Written → List Scalar
  scalars_applied end i x v = []
  scalars_applied (part y t taken ps) i x v = if bytes_eq x y then Word i ∷ (scalars t (bare v) ++ replicate (slots_of_parts ps) Unset) else skipped (scalars_applied ps (suc i) x v) (slots t)

-- a cell that nobody reaches keeps any form
abbrev mutual
  pub loose : Written → List Scalar
  loose (numeral n) = Word (amount n) ∷ []
  loose (truth p b) = Word (bit_number b) ∷ []
  loose (nothing p) = Word 0 ∷ []
  loose (gone p) = Unset ∷ []
  loose (address p n) = Address (amount n) ∷ []
  loose (constant p x) = Word 0 ∷ []
  loose (applied p x v) = loose v
  loose (inside p v) = loose v
  loose (tuple p vs) = loose_all vs
  loose (record' p fs) = loose_fields fs

  pub loose_all : Writtens → List Scalar
  loose_all written.none = []
  loose_all (written.more v vs) = loose v ++ loose_all vs

  pub loose_fields : Fields → List Scalar
  loose_fields written.end = []
  loose_fields (written.field x v fs) = loose v ++ loose_fields fs

-- what a cell holds that is read at this type, or at none
abbrev pub slots_at : Option Tau → Fields → List Scalar
slots_at (Some (fields ps s)) fs = scalars_all ps (values_in fs)
slots_at _ fs = loose_fields fs

abbrev pub held_at : Option Tau → Cell → Held
held_at t (written.slots p fs) = Slots (slots_at t fs)
held_at t (elements p ns) = Words (map amount ns)
held_at t (answers p bs) = Answers bs

-- ---- what it is, as a value

abbrev pub value_within : Option Cell → Val
value_within (Some (answers p bs)) = values.answers bs
value_within (Some (elements p ns)) = values.elements (map amount ns)
value_within _ = values.nothing

module _ (cells : ℕ → Option Cell) where
  unfoldable mutual
    -- a value without parentheses round it
    pub value : Tau → Written → Val
    value unit (nothing p) = values.nothing
    value (word w) (numeral n) = values.number (amount n)
    value bool (truth p b) = values.number (bit_number b)
    value (abs name ts s) (address p n) = value_within (cells (amount n))
    value (variant ps) (constant p x) = values.chosen x values.nothing
    value (variant ps) (applied p x v) = values.chosen x (value_applied ps x v)
    value (fields ps U) (tuple p vs) = values.parts (value_all ps (listed vs))
    value (fields ps U) (record' p fs) = values.parts (value_all ps (values_in fs))
    value (fields ps R) (address p n) = values.parts (value_all ps (slot_values (cells (amount n))))
    value (fields ps W) (address p n) = values.parts (value_all ps (slot_values (cells (amount n))))
    value t v = values.nothing

    pub value_all : Parts → List Written → values.Vals
    value_all (part x t true ps) (v ∷ vs) = values.more values.gone (value_all ps vs)
    value_all (part x t false ps) (v ∷ vs) = values.more (value t (bare v)) (value_all ps vs)
    value_all _ _ = values.none

    pub value_applied : Parts → List ℕ → Written → Val
    value_applied end x v = values.nothing
    value_applied (part y t taken ps) x v = if bytes_eq x y then value t (bare v) else value_applied ps x v
