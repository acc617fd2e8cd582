-- Computed examples of how bytes are divided (docs/LANGUAGE.md, "Tokens").
use Rattle.std.proofs.Common.{◌≡◌, ℕ, Bool, true, false, List, [], ◌∷◌, ◌++◌, codes, Some, None, refl}
use Rattle.cg_base.specs.Places.{first_place, place_after}
use Rattle.cg_lexer.specs.declared.token.TokenKind.{TokenKind}
use Rattle.cg_lexer.specs.declared.token.TokenKind.TheVariants.{Lower, Number, Word, Sign}
use Rattle.cg_lexer.specs.Gaps.{nothing, byte, nested, Piece, blank, line, block, gap_text, IsGap, IsSpace}
use Rattle.cg_lexer.specs.Tokens.{IsTextOf, IsLongest, Lexeme, Cursor, start, is_first, is_joined, Takes, Lexes}
use Rattle.cg_lexer.specs.Front.{kind_of}
use Rattle.cg_lexer.specs.Next.{IsUnknown, IsOpen}
use Rattle.cg_lexer.proofs.Gaps.{piece_stands}
use Rattle.cg_lexer.proofs.Cuts.{IsFront, front, none_found}

-- ---- texts

-- these bytes are this text, the longest of a token, and these
abbrev Splits : TokenKind → List ℕ → List ℕ → Type 0
Splits kind text rest = IsTextOf kind text × IsLongest text rest

splits : (text rest : List ℕ) (f : IsFront (text ++ rest) text rest) → Splits (kind_of text) text rest
splits text rest f = (f.fits, f.longest)

arrow : Splits Sign (codes "->") (codes ">")
arrow = splits _ _ (front _ _ _ 2 refl refl refl refl refl)

hash_brace : Splits Sign (codes "#{") (codes "-")
hash_brace = splits _ _ (front _ _ _ 2 refl refl refl refl refl)

no_shift : Splits Sign (codes "<") (codes "<=")
no_shift = splits _ _ (front _ _ _ 1 refl refl refl refl refl)

below_or_equal : Splits Sign (codes "<=") (codes "=")
below_or_equal = splits _ _ (front _ _ _ 2 refl refl refl refl refl)

bound : Splits Sign (codes ":<") (codes "A>}")
bound = splits _ _ (front _ _ _ 2 refl refl refl refl refl)

dots : Splits Sign (codes "..") (codes "&.")
dots = splits _ _ (front _ _ _ 2 refl refl refl refl refl)

both_bits : Splits Sign (codes ".&.") (codes ".")
both_bits = splits _ _ (front _ _ _ 3 refl refl refl refl refl)

dot : Splits Sign (codes ".") (codes "&x")
dot = splits _ _ (front _ _ _ 1 refl refl refl refl refl)

wildcard : Splits Sign (codes "_") (codes " x")
wildcard = splits _ _ (front _ _ _ 1 refl refl refl refl refl)

line_below : Splits Lower (codes "_x'") []
line_below = splits _ _ (front _ _ _ 3 refl refl refl refl refl)

word : Splits Word (codes "in") (codes " x")
word = splits _ _ (front _ _ _ 2 refl refl refl refl refl)

no_word : Splits Lower (codes "in'") (codes " x")
no_word = splits _ _ (front _ _ _ 3 refl refl refl refl refl)

-- ---- numbers

hexadecimal : Splits (Number (Some 255)) (codes "0xfF") (codes "g")
hexadecimal = splits _ _ (front _ _ _ 4 refl refl refl refl refl)

octal : Splits (Number (Some 8)) (codes "0o10") (codes "8")
octal = splits _ _ (front _ _ _ 4 refl refl refl refl refl)

binary : Splits (Number (Some 1)) (codes "0b1") (codes "2")
binary = splits _ _ (front _ _ _ 3 refl refl refl refl refl)

no_hexadecimal : Splits (Number (Some 0)) (codes "0") (codes "xg")
no_hexadecimal = splits _ _ (front _ _ _ 1 refl refl refl refl refl)

no_octal : Splits (Number (Some 0)) (codes "0") (codes "o8")
no_octal = splits _ _ (front _ _ _ 1 refl refl refl refl refl)

no_binary : Splits (Number (Some 0)) (codes "0") (codes "b2")
no_binary = splits _ _ (front _ _ _ 1 refl refl refl refl refl)

large_letter : Splits (Number (Some 0)) (codes "0") (codes "X1")
large_letter = splits _ _ (front _ _ _ 1 refl refl refl refl refl)

greatest : Splits (Number (Some 18446744073709551615)) (codes "18446744073709551615") []
greatest = splits _ _ (front _ _ _ 20 refl refl refl refl refl)

above : Splits (Number None) (codes "0x10000000000000000") []
above = splits _ _ (front _ _ _ 19 refl refl refl refl refl)

-- ---- comments

dashes_first : IsSpace (codes "-->")
dashes_first = (line (codes ">") ∷ [], refl, (((refl, tt), tt), tt))

line_counts_nothing : IsSpace (codes "--{-\n")
line_counts_nothing = (line (codes "{-") ∷ blank 10 ∷ [], refl, (((refl, (refl, tt)), refl), (refl, tt)))

nests : IsSpace (codes "{-a{--}--}")
nests = (block (byte 97 (nested nothing (byte 45 nothing))) ∷ [], refl, ((refl, (tt, (refl, tt))), tt))

not_closed : IsOpen (start (codes " {-}")) (record { line = 1; column = 2 })
not_closed = record {
  rest = codes "{-}";
  leaves = record { gap = blank 32 ∷ []; parts = refl; space = (refl, tt); stands = refl };
  begins = refl;
  unclosed = λ inside more h e. piece_stands (block inside) (codes "{-}") more h e refl;
}

outermost : IsOpen (start (codes "{-{--}")) first_place
outermost = record {
  rest = codes "{-{--}";
  leaves = record { gap = []; parts = refl; space = tt; stands = refl };
  begins = refl;
  unclosed = λ inside more h e. piece_stands (block inside) (codes "{-{--}") more h e refl;
}

-- ---- tokens of a source

-- a token that stands behind a gap, and the cursor behind it
token_at : (at : Cursor) (gap : List Piece) (text rest : List ℕ) → at.rest ≡ gap_text gap ++ (text ++ rest) → IsGap gap (text ++ rest) → (f : IsFront (text ++ rest) text rest)
    → Takes at (record { kind = kind_of text; text = text; place = place_after at.place (gap_text gap); first = is_first at.behind (gap_text gap); joined = is_joined at.behind (gap_text gap) })
    (record { rest = rest; place = place_after (place_after at.place (gap_text gap)) text; behind = true })
token_at at gap text rest parts space f =
    record { gap = gap; parts = parts; space = space; fits = f.fits; longest = f.longest; stands = refl; first = refl; joined = refl; next = refl; behind = refl }

-- two signs of which the second is joined to the first, behind a comment, and a name that is the first of its line
abbrev source : List ℕ
source = codes "{--} <<\n\tx"

abbrev sign_at : ℕ → Bool → Bool → Lexeme
sign_at column first joined = record { kind = Sign; text = codes "<"; place = record { line = 1; column = column }; first = first; joined = joined }

abbrev name_at : Lexeme
name_at = record { kind = Lower; text = codes "x"; place = record { line = 2; column = 2 }; first = true; joined = false }

abbrev behind : List ℕ → ℕ → ℕ → Cursor
behind rest row column = record { rest = rest; place = record { line = row; column = column }; behind = true }

lexes : Lexes source (sign_at 6 true false ∷ sign_at 7 false true ∷ name_at ∷ [])
lexes = (
  behind [] 2 3,
  (
    behind (codes "<\n\tx") 1 7,
    token_at (start source) (block nothing ∷ blank 32 ∷ []) (codes "<") (codes "<\n\tx") refl (tt, (refl, tt)) (front _ _ _ 1 refl refl refl refl refl),
    (
      behind (codes "\n\tx") 1 8,
      token_at (behind (codes "<\n\tx") 1 7) [] (codes "<") (codes "\n\tx") refl tt (front _ _ _ 1 refl refl refl refl refl),
      (
        behind [] 2 3,
        token_at (behind (codes "\n\tx") 1 8) (blank 10 ∷ blank 9 ∷ []) (codes "x") [] refl (refl, (refl, tt)) (front _ _ _ 1 refl refl refl refl refl),
        refl,
      ),
    ),
  ),
  ([], refl, tt),
)

-- `..&.` is `..`, and then a byte that begins no token
no_both_bits : IsUnknown (behind (codes "&.") 1 3) (record { line = 1; column = 3 })
no_both_bits = record {
  rest = codes "&.";
  leaves = record { gap = []; parts = refl; space = tt; stands = refl };
  left = refl;
  no_comment = (refl, refl);
  no_token = none_found (codes "&.") refl refl;
}
