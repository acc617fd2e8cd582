-- The names of the components of tuples, told digit by digit.
use Rattle.std.specs.Prelude.{ℕ, Bool, false, ◌&&◌, ◌==◌, not, nat_le, List, [], ◌∷◌, Option, Some, None}
use Rattle.std.specs.List.{list_all}
use Rattle.cg_base.specs.Bytes.{digit}
use Rattle.cg_base.specs.Numbers.{literal_of}

-- a number that is at most so large
abbrev pub counts_to : ℕ → Option ℕ → Bool
counts_to most None = false
counts_to most (Some n) = nat_le n most

-- digits, with no zero in front, spell such a number
abbrev pub is_position : ℕ → List ℕ → Bool
is_position most [] = false
is_position most (b ∷ digits) = not (b == 48) && list_all digit (b ∷ digits) && counts_to most (literal_of (b ∷ digits))

-- a `p` stands before them
abbrev pub is_numbered : ℕ → List ℕ → Bool
is_numbered most [] = false
is_numbered most (b ∷ digits) = b == 112 && is_position most digits
