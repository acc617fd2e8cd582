-- Scalars that a machine word holds: in a heap file a number may be of any size.
use Rattle.std.specs.Prelude.{ℕ, ◌-◌, ◌^◌, min, nat_lt, Bool, true, List}
use Rattle.std.specs.List.{list_all}
use Rattle.cg_heap.specs.declared.cell.Cell.{Cell as Held}
use Rattle.cg_heap.specs.declared.cell.Cell.TheVariants.{Slots, Words, Answers}
use Rattle.cg_heap.specs.declared.cell.Scalar.{Scalar}
use Rattle.cg_heap.specs.declared.cell.Scalar.TheVariants.{Unset, Word, Address}

abbrev pub is_small : Scalar → Bool
is_small Unset = true
is_small (Word n) = nat_lt n (2 ^ 64)
is_small (Address n) = nat_lt n (2 ^ 64)

abbrev pub are_small : List Scalar → Bool
are_small us = list_all is_small us

-- the slots, the elements, or the answers of a cell
abbrev pub is_small_cell : Held → Bool
is_small_cell (Slots us) = are_small us
is_small_cell (Words ns) = list_all (λ n. nat_lt n (2 ^ 64)) ns
is_small_cell (Answers bs) = true

-- the greatest number that a machine word holds
abbrev pub most_word : ℕ
most_word = 2 ^ 64 - 1

-- a number of any size, or the greatest where it is above that
abbrev pub capped_number : ℕ → ℕ
capped_number n = min n most_word

-- a scalar whose number, or whose address, is given so
abbrev pub capped : Scalar → Scalar
capped Unset = Unset
capped (Word n) = Word (capped_number n)
capped (Address n) = Address (capped_number n)
