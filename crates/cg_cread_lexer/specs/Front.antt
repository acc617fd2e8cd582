-- The gap and the token at the front of bytes, as the lexer finds them (docs/LANGUAGE.md, "The C text").
use Rattle.std.specs.Prelude.{◌≡◌, ℕ, suc, ◌+◌, ◌&&◌, ◌||◌, ◌==◌, nat_eq, nat_lt, List, [], ◌∷◌, ◌++◌, length, take, drop, codes, if◌then◌else◌}
use Rattle.std.specs.List.{prefix_len, list_any, starts_with, AllByRecursion}
use Rattle.std.specs.Str.{bytes_eq}
use Rattle.cg_base.specs.Bytes.{white, digit}
use Rattle.cg_ctree.specs.Tokens.{letter, part_of_name, is_word, short_signs, long_signs, first_line, second_line, Piece, IsPiece, gap_text}
use Rattle.cg_cread_lexer.specs.declared.front.Found.{Found}
use Rattle.cg_cread_lexer.specs.declared.token.TokenKind.{TokenKind}
use Rattle.cg_cread_lexer.specs.declared.token.TokenKind.TheVariants.{Name, Word, Plain, Literal, Sign, Line, Unknown, End}

-- ---- what stands before a token

-- how many bytes stand before the next `*/`; all of them where there is none ("The C text", white space)
abbrev pub inside_length : List ℕ → ℕ
inside_length [] = 0
inside_length (b ∷ bytes) = if bytes_eq (take 2 (b ∷ bytes)) (codes "*/") then 0 else suc (inside_length bytes)

-- how many bytes the comment has that goes on so behind its `/*`; 0 where it isn't closed ("The C text", white space)
abbrev pub closed_length : List ℕ → ℕ
closed_length inside = if nat_lt (inside_length inside) (length inside) then inside_length inside + 4 else 0

-- how many bytes the comment has that goes on so behind its `/`; 0 where there is none ("The C text", white space)
abbrev pub comment_length : List ℕ → ℕ
comment_length [] = 0
comment_length (b ∷ bytes) = if b == 42 then closed_length bytes else 0

-- how many bytes the white space or the comment at the front has; 0 where neither stands there ("The C text", white space)
abbrev pub piece_length : List ℕ → ℕ
piece_length [] = 0
piece_length (b ∷ bytes) = if white b then 1 else if b == 47 then comment_length bytes else 0

-- the first bytes, so many, are white space and comments ("The C text", white space)
pub record IsSpace (bytes : List ℕ) (n : ℕ) : Type 0 where
  pub pieces : List Piece
  pub parts : bytes ≡ gap_text pieces ++ drop n bytes
  pub long : n ≡ length (gap_text pieces)
  pub space : AllByRecursion IsPiece pieces

-- and neither follows them ("The C text", white space)
pub record IsGap (bytes : List ℕ) (n : ℕ) : Type 0 where
  pub front : IsSpace bytes n
  pub stops : piece_length (drop n bytes) ≡ 0

-- ---- the token

-- what is found where a token is its text ("The C text", tokens)
abbrev pub whole_found : TokenKind → ℕ → Found
whole_found kind n = record { kind = kind; len = n; taken = n }

-- a name or a word ("The C text", names and words)
abbrev pub name_found : List ℕ → Found
name_found bytes =
    whole_found (if is_word (take (prefix_len part_of_name bytes) bytes) then Word else Name) (prefix_len part_of_name bytes)

-- a number of so many digits, and the `ull` behind it ("The C text", numbers)
abbrev pub digits_found : List ℕ → ℕ → Found
digits_found bytes n =
    if starts_with nat_eq (drop n bytes) (codes "ull") then record { kind = Literal; len = n; taken = n + 3 } else whole_found Plain n

-- a number ("The C text", numbers)
abbrev pub number_found : List ℕ → Found
number_found bytes = digits_found bytes (prefix_len digit bytes)

-- an include line ("The C text", include lines)
abbrev pub line_found : List ℕ → Found
line_found bytes =
    if starts_with nat_eq bytes first_line || starts_with nat_eq bytes second_line then whole_found Line 19 else whole_found Unknown 0

-- a sign of one byte, the first ("The C text", signs)
abbrev pub short_found : ℕ → Found
short_found b = if list_any (bytes_eq (b ∷ [])) short_signs then whole_found Sign 1 else whole_found Unknown 0

-- a sign; the beginning of a comment is none ("The C text", signs)
abbrev pub sign_found : List ℕ → Found
sign_found [] = whole_found Unknown 0
sign_found (b ∷ []) = short_found b
sign_found (b ∷ c ∷ bytes) =
    if b == 47 && c == 42 then whole_found Unknown 0
    else if list_any (bytes_eq (b ∷ c ∷ [])) long_signs then whole_found Sign 2
    else short_found b

-- what stands at the front ("The C text", tokens)
abbrev pub found : List ℕ → Found
found [] = whole_found End 0
found (b ∷ bytes) =
    if letter b then name_found (b ∷ bytes)
    else if digit b then number_found (b ∷ bytes)
    else if b == 35 then line_found (b ∷ bytes)
    else sign_found (b ∷ bytes)
