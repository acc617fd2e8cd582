-- The gap and the token at the front of bytes, as the lexer finds them (docs/LANGUAGE.md, "Tokens").
use Rattle.std.specs.Prelude.{◌≡◌, ℕ, suc, Bool, ◌+◌, ◌-◌, ◌||◌, ◌&&◌, ◌==◌, nat_le, List, [], ◌∷◌, ◌++◌, length, drop, codes, Option, if◌then◌else◌}
use Rattle.std.specs.List.{prefix_len, list_any}
use Rattle.std.specs.Str.{bytes_eq}
use Rattle.cg_lexer.specs.declared.token.TokenKind.{TokenKind}
use Rattle.cg_lexer.specs.declared.token.TokenKind.TheVariants.{Lower, Upper, Number, Word, Sign, End}
use Rattle.cg_lexer.specs.declared.number.Base.{Base}
use Rattle.cg_lexer.specs.declared.number.Base.TheVariants.{Decimal, Hexadecimal, Octal, Binary}
use Rattle.cg_base.specs.Bytes.{white, digit}
use Rattle.cg_lexer.specs.Bytes.{small, large, part_of_name, inline, digit_of}
use Rattle.cg_lexer.specs.Numbers.{base_size, base_mark, value_of}
use Rattle.cg_lexer.specs.Gaps.{opens, closes, Piece, gap_text, IsGap}
use Rattle.cg_lexer.specs.Tokens.{is_word, short_signs, middle_signs, long_signs}

-- ---- what stands before a token

-- how many bytes there are up to and with the end of a block comment, from a place inside as many further comments that are
-- open in it; more than are left where it isn't closed
abbrev pub closing : ℕ → List ℕ → ℕ
closing n [] = 1
closing n (b ∷ []) = 2
closing n (b ∷ c ∷ bytes) =
    if opens (b ∷ c ∷ bytes) then 2 + closing (suc n) bytes
    else if closes (b ∷ c ∷ bytes) then (if n == 0 then 2 else 2 + closing (n - 1) bytes)
    else 1 + closing n (c ∷ bytes)

-- how many bytes the block comment has whose inside begins here; 0 where it isn't closed
abbrev pub closed_length : List ℕ → ℕ
closed_length bytes = if nat_le (closing 0 bytes) (length bytes) then 2 + closing 0 bytes else 0

-- how many bytes the block comment has that goes on so behind its `{`; 0 where there is none
abbrev pub block_length : List ℕ → ℕ
block_length [] = 0
block_length (b ∷ bytes) = if b == 45 then closed_length bytes else 0

-- how many bytes the line comment has that goes on so behind its `-`; 0 where there is none
abbrev pub line_length : List ℕ → ℕ
line_length [] = 0
line_length (b ∷ bytes) = if b == 45 then 2 + prefix_len inline bytes else 0

-- how many bytes the white space or the comment at the front has; 0 where neither stands there
abbrev pub piece_length : List ℕ → ℕ
piece_length [] = 0
piece_length (b ∷ bytes) = if white b then 1 else if b == 45 then line_length bytes else if b == 123 then block_length bytes else 0

-- the first bytes, so many, are white space and comments
pub record IsSpaced (bytes : List ℕ) (n : ℕ) : Type 0 where
  pub pieces : List Piece
  pub parts : bytes ≡ gap_text pieces ++ drop n bytes
  pub long : n ≡ length (gap_text pieces)
  pub space : IsGap pieces (drop n bytes)

-- and neither follows them
pub record IsFullGap (bytes : List ℕ) (n : ℕ) : Type 0 where
  pub front : IsSpaced bytes n
  pub stops : piece_length (drop n bytes) ≡ 0

-- ---- numbers

-- the base of the number at the front: another than ten only where a digit follows its mark
abbrev pub number_base : List ℕ → Base
number_base [] = Decimal
number_base (a ∷ []) = Decimal
number_base (a ∷ b ∷ []) = Decimal
number_base (a ∷ b ∷ c ∷ bytes) =
    if b == 120 && (a == 48 && digit_of 16 c) then Hexadecimal
    else if b == 111 && (a == 48 && digit_of 8 c) then Octal
    else if b == 98 && (a == 48 && digit_of 2 c) then Binary
    else Decimal

-- how many bytes the number at the front has in a base
abbrev pub length_in : Base → List ℕ → ℕ
length_in base bytes = length (base_mark base) + prefix_len (digit_of (base_size base)) (drop (length (base_mark base)) bytes)

abbrev pub number_length : List ℕ → ℕ
number_length bytes = length_in (number_base bytes) bytes

-- ---- the token

-- what a name or a word begins with
abbrev pub letter : ℕ → Bool
letter b = small b || large b

-- whether a byte, two and three are a sign
abbrev pub short : ℕ → Bool
short a = list_any (bytes_eq (a ∷ [])) short_signs

abbrev pub middle : ℕ → ℕ → Bool
middle a b = list_any (bytes_eq (a ∷ b ∷ [])) middle_signs

abbrev pub long : ℕ → ℕ → ℕ → Bool
long a b c = list_any (bytes_eq (a ∷ b ∷ c ∷ [])) long_signs

-- how many bytes the sign at the front has; 0 where there is none
abbrev pub short_length : ℕ → ℕ
short_length a = if short a then 1 else 0

abbrev pub middle_length : ℕ → ℕ → ℕ
middle_length a b = if middle a b then 2 else short_length a

abbrev pub sign_length : List ℕ → ℕ
sign_length [] = 0
sign_length (a ∷ []) = short_length a
sign_length (a ∷ b ∷ []) = middle_length a b
sign_length (a ∷ b ∷ c ∷ bytes) = if long a b c then 3 else middle_length a b

-- how many bytes the token at the front has; 0 where there is none
abbrev pub token_length : List ℕ → ℕ
token_length [] = 0
token_length (b ∷ bytes) =
    if letter b then prefix_len part_of_name (b ∷ bytes)
    else if digit b then number_length (b ∷ bytes)
    else sign_length (b ∷ bytes)

-- and 0 where a comment opens
abbrev pub front_length : List ℕ → ℕ
front_length bytes = if opens bytes then 0 else token_length bytes

-- the value of the number with this text
abbrev pub number_value : List ℕ → Option ℕ
number_value text = value_of (number_base text) (drop (length (base_mark (number_base text))) text)

-- the kind that a token with this text has
abbrev pub kind_of : List ℕ → TokenKind
kind_of [] = End
kind_of (b ∷ bytes) =
    if digit b then Number (number_value (b ∷ bytes))
    else if is_word (b ∷ bytes) then Word
    else if large b then Upper
    else if bytes_eq (b ∷ bytes) (codes "_") then Sign
    else if small b then Lower
    else Sign
