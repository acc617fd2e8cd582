-- Which entry of a heap file has an address (docs/LANGUAGE.md, "Heap files").
use Rattle.std.specs.Prelude.{◌≡◌, ℕ, ◌==◌, Bool, List, drop, Option, Some, unwrap_or, Result, Ok, Err, ⊤, if◌then◌else◌}
use Rattle.std.specs.BTreeMap.{BTreeMap, get_by}
use Rattle.std.specs.Cmp.Lexicographic.{slice_cmp}
use Rattle.std.specs.List.{prefix_len}
use Rattle.std.specs.Ordering.{nat_cmp}
use Rattle.std.specs.Str.{bytes_eq}
use Rattle.cg_base.specs.Bytes.{digit, Each}
use Rattle.cg_base.specs.Numbers.{number_from}
use Rattle.cg_heaptext_def.specs.Footprints.{amounts, position_from}
use Rattle.cg_heaptext_def.specs.HeapText.{IsSecond, Least, Never}
use Rattle.cg_heaptext_def.specs.Trees.{Heap}
use Rattle.cg_heaptext_index.specs.declared.fault.AddressFault.{AddressFault}
use Rattle.cg_heaptext_index.specs.declared.fault.AddressFault.TheVariants.{Second, Memory}
use Rattle.cg_heaptext_index.specs.declared.map.Addresses.{Addresses}
use denote.Ref.{Bor}

-- the digit 0
abbrev pub is_zero : ℕ → Bool
is_zero b = b == 48

-- digits without the zeros in front
abbrev pub significant : List ℕ → List ℕ
significant digits = drop (prefix_len is_zero digits) digits

-- texts, each with a position
abbrev pub Positions : Type 0
Positions = BTreeMap (Bor (List ℕ)) ℕ

-- the position of a text
abbrev pub position : Positions → List ℕ → Option ℕ
position positions text = get_by (λ key. slice_cmp nat_cmp text key.now) positions

-- a text keeps the position that it had, or else gets this one, and the others keep theirs
abbrev pub Joins : Positions → List ℕ → ℕ → Positions → Type 0
Joins before text at after = (other : List ℕ) → position after other ≡ (if bytes_eq text other then Some (unwrap_or (position before text) at) else position before other)

-- whatever number digits spell, its position is the first at which it stands among these
abbrev pub IsMapOf : Addresses → List ℕ → Type 0
IsMapOf addresses ns = (digits : List ℕ) → Each digit digits → position addresses.positions (significant digits) ≡ position_from 0 ns (number_from 0 digits)

-- The answer is right: no entry has the address of an earlier one, and this is where addresses stand; or at this place stands the first that has.
abbrev pub Answers : Heap → Result Addresses AddressFault → Type 0
Answers h (Ok addresses) = Never (IsSecond h) × IsMapOf addresses (amounts h)
Answers h (Err (Second place)) = Least (IsSecond h) place
Answers h (Err Memory) = ⊤
