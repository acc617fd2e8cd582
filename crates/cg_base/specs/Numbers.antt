-- Numbers that are written in decimal digits (docs/LANGUAGE.md, "Tokens").
use Rattle.std.specs.Prelude.{ℕ, ◌+◌, ◌-◌, ◌*◌, ◌^◌, nat_lt, List, [], ◌∷◌, Option, Some, None, if◌then◌else◌}

-- the number that digits spell, the most significant first, from a number that is spelled before them
abbrev pub number_from : ℕ → List ℕ → ℕ
number_from n [] = n
number_from n (b ∷ digits) = number_from (n * 10 + (b - 48)) digits

-- a number that is at most 2^64 - 1
abbrev pub word64 : ℕ → Option ℕ
word64 n = if nat_lt n (2 ^ 64) then Some n else None

-- the number that digits spell where it is at most 2^64 - 1
abbrev pub literal_of : List ℕ → Option ℕ
literal_of digits = word64 (number_from 0 digits)
