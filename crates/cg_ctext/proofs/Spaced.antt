-- Tokens with the white space before each, and that the text of such a list is divided into them.
use Rattle.std.proofs.Common.{◌≡◌, ℕ, zero, suc, ◌+◌, ◌<◌, ◌^◌, ◌%◌, true, false, List, [], ◌∷◌, ◌++◌, map, codes, decimal, refl, sym, ap, arith}
use Rattle.std.specs.Prelude.{⊤}
use Rattle.std.specs.List.{AllByRecursion}
use Rattle.std.proofs.lemmas.Fmt.{decimal_by_steps}
use Rattle.cg_base.specs.Bytes.{white, digit, Each, Starts, Stops}
use Rattle.cg_ctree.specs.Tokens.{part_of_name, Token, literal, token_text, IsToken, goes_on, Ends, blank, IsPiece, gap_text, has_line_feed, Lexeme, Divides, Lexes}
use Rattle.cg_ctext.specs.Printed.{spaces, line_at}
use Rattle.cg_base.proofs.Counts.{one_digit}

-- a token with the white space before it
pub record Spaced : Type 0 where
  pub gap : List ℕ
  pub token : Token

-- the text of such tokens, which a line feed ends
abbrev pub text : List Spaced → List ℕ
text [] = codes "\n"
text (s ∷ ss) = s.gap ++ (token_text s.token ++ text ss)

-- what the grammar sees of one
abbrev pub seen : Spaced → Lexeme
seen s = record { token = s.token; later = has_line_feed s.gap }

-- before each token stands white space alone, and nothing that follows goes on with it
abbrev pub Stands : List Spaced → Type 0
Stands [] = ⊤
Stands (s ∷ ss) = Each white s.gap × IsToken s.token × Ends s.token (text ss) × Stands ss

-- the same, and what follows goes on with no name
abbrev pub Closed : List Spaced → Type 0
Closed ss = Stops part_of_name (text ss) × Stands ss

-- white space is a gap
blanks : (gap : List ℕ) → gap_text (map blank gap) ≡ gap
blanks [] = refl
blanks (b ∷ gap) = ap (λ g. b ∷ g) (blanks gap)

are_pieces : (gap : List ℕ) → Each white gap → AllByRecursion IsPiece (map blank gap)
are_pieces [] h = tt
are_pieces (b ∷ gap) h = (h.0, are_pieces gap h.1)

divides : (ss : List Spaced) → Stands ss → Divides (text ss) (map seen ss) (gap_text (blank 10 ∷ []))
divides [] h = refl
divides (s ∷ ss) h = (
  text ss,
  record {
    gap = map blank s.gap;
    parts = ap (λ g. g ++ (token_text s.token ++ text ss)) (sym (blanks s.gap));
    space = are_pieces s.gap h.0;
    stands = ap has_line_feed (sym (blanks s.gap));
    fits = h.1;
    ends = h.2;
  },
  divides ss h.3,
)

-- so the text is divided into these tokens
pub lexes : (ss : List Spaced) → Stands ss → Lexes (text ss) (map seen ss)
lexes ss h = (blank 10 ∷ [], (refl, tt), divides ss h)

-- ---- numbers

abbrev IsNumber : List ℕ → Type 0
IsNumber ds = Starts digit ds × Each digit ds

digit_behind : (ds : List ℕ) (b : ℕ) → IsNumber ds → digit b ≡ true → IsNumber (ds ++ b ∷ [])
digit_behind [] b h e = absurd h.0
digit_behind (d ∷ ds) b h e = (h.0, (h.0, behind ds h.1.1))
  where
    behind : (xs : List ℕ) → Each digit xs → Each digit (xs ++ b ∷ [])
    behind [] all = (e, tt)
    behind (x ∷ xs) all = (all.0, behind xs all.1)

last_digit : (n : ℕ) → n % 10 < 10
last_digit n = grind arith

-- decimal digits are a number
pub decimal_is_number : (n : ℕ) → n < 2 ^ 64 → IsToken (literal (decimal n))
decimal_is_number n h =
    decimal_by_steps (λ m ds. IsNumber ds) (λ m small. (one_digit m small, (one_digit m small, tt)))
    (λ m ds large ih. digit_behind ds (48 + m % 10) ih (one_digit (m % 10) (last_digit m))) n h

-- ---- signs that no byte makes longer

pub either_rest : (x : List ℕ) → ((b : ℕ) (rest : List ℕ) → goes_on x (b ∷ rest) ≡ false) → (rest : List ℕ) → goes_on x rest ≡ false
either_rest x h [] = refl
either_rest x h (b ∷ rest) = h b rest

pub opening_ends : (rest : List ℕ) → goes_on (codes "(") rest ≡ false
opening_ends = either_rest (codes "(") (λ b rest. refl)

pub closing_ends : (rest : List ℕ) → goes_on (codes ")") rest ≡ false
closing_ends = either_rest (codes ")") (λ b rest. refl)

pub comma_ends : (rest : List ℕ) → goes_on (codes ",") rest ≡ false
comma_ends = either_rest (codes ",") (λ b rest. refl)

pub semicolon_ends : (rest : List ℕ) → goes_on (codes ";") rest ≡ false
semicolon_ends = either_rest (codes ";") (λ b rest. refl)

pub begin_ends : (rest : List ℕ) → goes_on (codes "{") rest ≡ false
begin_ends = either_rest (codes "{") (λ b rest. refl)

pub end_ends : (rest : List ℕ) → goes_on (codes "}") rest ≡ false
end_ends = either_rest (codes "}") (λ b rest. refl)

pub flip_ends : (rest : List ℕ) → goes_on (codes "~") rest ≡ false
flip_ends = either_rest (codes "~") (λ b rest. refl)

pub dot_ends : (rest : List ℕ) → goes_on (codes ".") rest ≡ false
dot_ends = either_rest (codes ".") (λ b rest. refl)

pub arrow_ends : (rest : List ℕ) → goes_on (codes "->") rest ≡ false
arrow_ends = either_rest (codes "->") (λ b rest. refl)

pub star_ends : (rest : List ℕ) → goes_on (codes "*") rest ≡ false
star_ends = either_rest (codes "*") (λ b rest. refl)

pub colon_ends : (rest : List ℕ) → goes_on (codes ":") rest ≡ false
colon_ends = either_rest (codes ":") (λ b rest. refl)

-- ---- lines

white_spaces : (level : ℕ) → Each white (spaces level)
white_spaces zero = tt
white_spaces (suc level) = (refl, (refl, (refl, (refl, white_spaces level))))

-- a new line and its spaces are white space
pub white_line : (level : ℕ) → Each white (line_at level)
unfolding line_at
white_line level = (refl, white_spaces level)
