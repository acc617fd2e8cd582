-- Kinds of bytes that the tokens of a source have (docs/LANGUAGE.md, "Tokens").
use Rattle.std.specs.Prelude.{ℕ, Bool, not, ◌-◌, ◌||◌, ◌&&◌, ◌==◌, nat_le, nat_lt, if◌then◌else◌}
use Rattle.cg_base.specs.Bytes.{white, digit}

-- a small letter or a line below
abbrev pub small : ℕ → Bool
small b = (nat_le 97 b && nat_le b 122) || b == 95

-- a large letter
abbrev pub large : ℕ → Bool
large b = nat_le 65 b && nat_le b 90

-- what may go on a name: letters, digits, the line below and the prime
abbrev pub part_of_name : ℕ → Bool
part_of_name b = small b || large b || digit b || b == 39

-- no white space
abbrev pub dark : ℕ → Bool
dark b = not (white b)

-- no line feed: what a line comment goes on with
abbrev pub inline : ℕ → Bool
inline b = not (b == 10)

-- the value of a digit; letters of both cases are the digits from ten on, and what is none has 16
abbrev pub digit_value : ℕ → ℕ
digit_value b =
    if digit b then b - 48
    else if nat_le 97 b && nat_le b 102 then b - 87
    else if nat_le 65 b && nat_le b 70 then b - 55
    else 16

-- a digit of a base
abbrev pub digit_of : ℕ → ℕ → Bool
digit_of base b = nat_lt (digit_value b) base
