-- Machine values: which scalars a type has, whatever they stand for, and where parts stand among them (docs/LANGUAGE.md, "Layout").
use Rattle.std.specs.Prelude.{ℕ, zero, suc, ◌^◌, Bool, true, false, ◌&&◌, ◌||◌, not, cond, nat_eq, nat_le, nat_lt, List, [], ◌∷◌, ◌++◌, drop, length, replicate, take, Option, Some, None}
use Rattle.cg_base.specs.Same.{same_type}
use Rattle.cg_base.specs.Types.{Tau, var, seen, unit, word, bool, arrow, abs, variant, fields, Parts, end, part}
use Rattle.cg_base.specs.Words.{bits}
use Rattle.cg_base.specs.declared.kind.Sigil.TheVariants.{R, W, U}
use Rattle.cg_heap.specs.Reps.{head, number_of, slots, slots_of_parts, tail}
use Rattle.cg_heap.specs.declared.cell.Scalar.{Scalar}
use Rattle.cg_heap.specs.declared.cell.Scalar.TheVariants.{Unset, Word, Address}

-- ---- parts, one behind the other

-- the scalars of the part at a place, where they are all there
unfoldable pub part_at : ℕ → Parts → List Scalar → Option (List Scalar)
part_at i end us = None
part_at zero (part name t taken ps) us = cond (nat_le (slots t) (length us)) (Some (take (slots t) us)) None
part_at (suc i) (part name t taken ps) us = part_at i ps (drop (slots t) us)

-- with others in their place
unfoldable pub with_part_at : ℕ → Parts → List Scalar → List Scalar → Option (List Scalar)
with_part_at i end ws us = None
with_part_at zero (part name t taken ps) ws us = cond (nat_le (slots t) (length us)) (Some (ws ++ drop (slots t) us)) None
with_part_at (suc i) (part name t taken ps) ws us = front (take (slots t) us) (with_part_at i ps ws (drop (slots t) us)) where
  front : List Scalar → Option (List Scalar) → Option (List Scalar)
  front xs None = None
  front xs (Some ys) = Some (xs ++ ys)

-- these for the part at a place, and unset ones for all others
unfoldable pub only_at : ℕ → Parts → List Scalar → List Scalar
only_at i end ws = []
only_at zero (part name t taken ps) ws = ws ++ replicate (slots_of_parts ps) Unset
only_at (suc i) (part name t taken ps) ws = replicate (slots t) Unset ++ only_at i ps ws

-- the type of the part at a place; unit where there is none
unfoldable pub type_of_part : ℕ → Parts → Tau
type_of_part i end = unit
type_of_part zero (part name t taken ps) = t
type_of_part (suc i) (part name t taken ps) = type_of_part i ps

-- ---- machine values

abbrev pub is_number_below : ℕ → List Scalar → Bool
is_number_below n (Word k ∷ []) = nat_lt k n
is_number_below n us = false

abbrev pub is_address : List Scalar → Bool
is_address (Address p ∷ []) = true
is_address us = false

abbrev pub is_type : Option Tau → Tau → Bool
is_type None t = false
is_type (Some u) t = same_type u t

abbrev pub is_place_of : (ℕ → Option Tau) → Tau → List Scalar → Bool
is_place_of types t (Word k ∷ []) = is_type (types k) t
is_place_of types t us = false

abbrev pub is_tagged : List Scalar → Bool
is_tagged (Word k ∷ us) = true
is_tagged us = false

-- Scalars are a machine value of a type, where `types` tells the types of the instances: a number in range; the place of an alternative
-- that isn't taken, with a machine value of it; the place of an instance of just this arrow type; an address. Slots of taken fields and
-- of other alternatives are free.
module _ (types : ℕ → Option Tau) where
  unfoldable mutual
    pub is_machine : Tau → List Scalar → Bool
    is_machine (var n) us = false
    is_machine (seen n) us = false
    is_machine unit us = is_number_below 1 us
    is_machine (word w) us = is_number_below (2 ^ bits w) us
    is_machine bool us = is_number_below 2 us
    is_machine (arrow a b) us = is_place_of types (arrow a b) us
    is_machine (abs name args sigil) us = is_address us
    is_machine (variant ps) us =
        is_tagged us && (nat_eq (length (tail us)) (slots_of_parts ps) && is_alternative ps (number_of (head us)) (tail us))
    is_machine (fields ps U) us = are_machine ps us
    is_machine (fields ps R) us = is_address us
    is_machine (fields ps W) us = is_address us

    -- fields, one behind the other
    pub are_machine : Parts → List Scalar → Bool
    are_machine end us = nat_eq (length us) 0
    are_machine (part name t taken ps) us =
        nat_le (slots t) (length us) && ((taken || is_machine t (take (slots t) us)) && are_machine ps (drop (slots t) us))

    -- the payload of the alternative at a place, among those of all
    pub is_alternative : Parts → ℕ → List Scalar → Bool
    is_alternative end i us = false
    is_alternative (part name t taken ps) zero us = not taken && is_machine t (take (slots t) us)
    is_alternative (part name t taken ps) (suc i) us = is_alternative ps i (drop (slots t) us)
