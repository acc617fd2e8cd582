-- What files and an output hold, and what a read and a write do to it, where it is told.
use Rattle.std.specs.Prelude.{◌≡◌, ℕ, ◌+◌, ◌≤◌, List, [], length, take, unwrap_or, None, Some}
use Rattle.std.specs.declared.option.Option.{Option}
use Rattle.std.specs.Option.{option_map}
use Rattle.std.specs.Ordering.{nat_cmp}
use Rattle.std.specs.Cmp.Lexicographic.{slice_cmp}
use Rattle.std.specs.FinMap.{FinMap, get, insert}
use Rattle.std.specs.Io.KnownBytes.{append_known}

-- a finite map from names to bytes
abbrev pub Held : Type 0
Held = FinMap (slice_cmp nat_cmp) (List ℕ)

-- the bytes under a name, and none where the name isn't held
abbrev pub bytes_at : Held → List ℕ → List ℕ
bytes_at held name = unwrap_or (get held name) []

-- what a read of a name may answer: all of its bytes, or the first most + 1 of them
abbrev pub IsReadOf : Option Held → List ℕ → ℕ → List ℕ → Type 0
IsReadOf None name most bytes = length bytes ≤ most + 1
IsReadOf (Some held) name most bytes = bytes ≡ take (most + 1) (bytes_at held name)

-- the same files, but for these bytes under that name
abbrev pub with_file : Option Held → List ℕ → List ℕ → Option Held
with_file held name bytes = option_map (λ files. insert files name bytes) held

-- after a failed write: the file named holds some prefix of the bytes, and every other file is unchanged
abbrev pub HoldsPrefix : List ℕ → List ℕ → Option Held → Option Held → Type 0
HoldsPrefix name bytes old new = (n : ℕ) × (new ≡ with_file old name (take n bytes))

-- after a failed write of an output: what it held, followed by some prefix of the bytes
abbrev pub TookPrefix : List ℕ → Option (List ℕ) → Option (List ℕ) → Type 0
TookPrefix bytes old new = (n : ℕ) × (new ≡ append_known old (take n bytes))
