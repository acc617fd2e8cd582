-- Scalars as they are given: a number of any length as at most 2^64 - 1.
use Rattle.std.specs.Prelude.{◌≡◌, ℕ, cond, List, [], ◌∷◌, ◌++◌, map, replicate}
use Rattle.cg_base.specs.declared.ty.Part.{Part}
use Rattle.cg_base.specs.Types.{Parts, part_of, to_parts, type_of}
use Rattle.cg_heap.specs.declared.cell.Scalar.{Scalar}
use Rattle.cg_heap.specs.declared.cell.Scalar.TheVariants.{Unset, Address}
use Rattle.cg_heap.specs.Reps.{slots, slots_of_parts}
use Rattle.cg_heaptext_def.specs.Reading.{scalars}
pub use Rattle.cg_heaptext_def.specs.Small.{capped}
use Rattle.cg_heaptext_def.specs.Trees.{Written, address, amount, bare}

-- these were added behind the others, as they are given
abbrev pub Adds : List Scalar → List Scalar → List Scalar → Type 0
Adds old us new = new ≡ old ++ map capped us

-- so many that are unset
abbrev pub unset : ℕ → List Scalar
unset n = replicate n Unset

-- the parts of a type, and how many scalars they have
abbrev pub pieces : List Part → Parts
pieces ps = to_parts (map part_of ps)

abbrev pub width : List Part → ℕ
width ps = slots_of_parts (pieces ps)

-- a mention of a cell, and nothing of any other value
abbrev pub address_in : Written → List Scalar
address_in (address p n) = Address (amount n) ∷ []
address_in _ = []

-- a field: where it is taken it is unset
abbrev pub field_in : Part → Written → List Scalar
field_in p v = cond p.taken (unset (slots (type_of p.ty))) (scalars (type_of p.ty) (bare v))
