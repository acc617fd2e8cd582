-- Numbers in the four bases (docs/LANGUAGE.md, "Tokens").
use Rattle.std.specs.Prelude.{◌≡◌, ℕ, ◌+◌, ◌*◌, List, [], ◌∷◌, ◌++◌, Option, codes}
use Rattle.cg_base.specs.Bytes.{Each, Starts}
use Rattle.cg_base.specs.Numbers.{word64}
use Rattle.cg_lexer.specs.declared.number.Base.{Base}
use Rattle.cg_lexer.specs.declared.number.Base.TheVariants.{Decimal, Hexadecimal, Octal, Binary}
use Rattle.cg_lexer.specs.Bytes.{digit_value, digit_of}

-- how many digits a base has
abbrev pub base_size : Base → ℕ
base_size Decimal = 10
base_size Hexadecimal = 16
base_size Octal = 8
base_size Binary = 2

-- what is written before the digits of a base
abbrev pub base_mark : Base → List ℕ
base_mark Decimal = []
base_mark Hexadecimal = codes "0x"
base_mark Octal = codes "0o"
base_mark Binary = codes "0b"

-- the number that digits of a base spell, the most significant first, from a number that is spelled before them
abbrev pub number_from : ℕ → ℕ → List ℕ → ℕ
number_from base n [] = n
number_from base n (b ∷ digits) = number_from base (n * base + digit_value b) digits

-- the value of digits, where it is at most 2^64 - 1
abbrev pub value_of : Base → List ℕ → Option ℕ
value_of base digits = word64 (number_from (base_size base) 0 digits)

-- a text is a number: the mark of a base, and at least one digit of it
abbrev pub IsNumber : List ℕ → Option ℕ → Type 0
IsNumber text value =
    (base : Base) × (digits : List ℕ) × (text ≡ base_mark base ++ digits) × Starts (digit_of (base_size base)) digits × Each (digit_of (base_size base)) digits × (value ≡ value_of base digits)
