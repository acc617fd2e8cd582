-- How bytes are divided into white space, comments and tokens, each at its place (docs/LANGUAGE.md, "Tokens").
use Rattle.std.specs.Prelude.{◌≡◌, ℕ, ◌≤◌, Bool, true, false, not, ◌||◌, ◌&&◌, ◌==◌, List, [], ◌∷◌, ◌++◌, length, codes}
use Rattle.std.specs.List.{list_any}
use Rattle.std.specs.Str.{bytes_eq}
use Rattle.cg_base.specs.declared.place.Place.{Place}
use Rattle.cg_base.specs.Places.{first_place, place_after}
use Rattle.cg_lexer.specs.declared.token.TokenKind.{TokenKind}
use Rattle.cg_lexer.specs.declared.token.TokenKind.TheVariants.{Lower, Upper, Number, Word, Sign, End}
use Rattle.cg_lexer.specs.declared.token.Token.{Token}
use Rattle.cg_base.specs.Bytes.{Each, Starts}
use Rattle.cg_lexer.specs.Bytes.{small, large, part_of_name}
use Rattle.cg_lexer.specs.Numbers.{IsNumber}
use Rattle.cg_lexer.specs.Gaps.{opens, dashes, Piece, gap_text, IsGap, IsSpace, has_line_feed}

-- the words of the language, which are no names
abbrev pub words : List (List ℕ)
words = codes "type" ∷ codes "let" ∷ codes "in" ∷ codes "and" ∷ codes "if" ∷ codes "then" ∷ codes "else" ∷ codes "take" ∷ codes "all" ∷ codes "not" ∷ codes "complement" ∷ codes "upcast" ∷ codes "True" ∷ codes "False" ∷ []

-- whether a text is a word
abbrev pub is_word : List ℕ → Bool
is_word text = list_any (bytes_eq text) words

-- the signs of one byte, of two and of three
abbrev pub short_signs : List (List ℕ)
short_signs = codes "(" ∷ codes ")" ∷ codes "{" ∷ codes "}" ∷ codes "[" ∷ codes "]" ∷ codes "<" ∷ codes ">" ∷ codes "=" ∷ codes ":" ∷ codes "!" ∷ codes "|" ∷ codes "," ∷ codes "." ∷ codes "+" ∷ codes "-" ∷ codes "*" ∷ codes "/" ∷ codes "%" ∷ []

abbrev pub middle_signs : List (List ℕ)
middle_signs = codes "#{" ∷ codes "<=" ∷ codes ">=" ∷ codes "==" ∷ codes "/=" ∷ codes ":<" ∷ codes "->" ∷ codes ".." ∷ codes "&&" ∷ codes "||" ∷ []

abbrev pub long_signs : List (List ℕ)
long_signs = codes ".&." ∷ codes ".|." ∷ codes ".^." ∷ []

-- whether a text is a sign; the wildcard is one
abbrev pub is_sign : List ℕ → Bool
is_sign text = list_any (bytes_eq text) short_signs || list_any (bytes_eq text) middle_signs || list_any (bytes_eq text) long_signs || bytes_eq text (codes "_")

-- the texts of a kind; `_` alone is no lower name
abbrev pub IsTextOf : TokenKind → List ℕ → Type 0
IsTextOf Lower text = Starts small text × Each part_of_name text × (is_word text ≡ false) × (bytes_eq text (codes "_") ≡ false)
IsTextOf Upper text = Starts large text × Each part_of_name text × (is_word text ≡ false)
IsTextOf (Number value) text = IsNumber text value
IsTextOf Word text = is_word text ≡ true
IsTextOf Sign text = is_sign text ≡ true
IsTextOf End text = ⊥

-- a text is the longest that fits, with these bytes behind it: no comment begins where it begins, and no longer text of a token does
pub record IsLongest (text rest : List ℕ) : Type 0 where
  pub no_comment : (opens (text ++ rest) || dashes (text ++ rest)) ≡ false
  pub longest : (kind : TokenKind) (other more : List ℕ) → IsTextOf kind other → text ++ rest ≡ other ++ more → length other ≤ length text

-- a token without where it lies in memory
pub record Lexeme : Type 0 where
  pub kind : TokenKind
  pub text : List ℕ
  pub place : Place
  pub first : Bool
  pub joined : Bool

abbrev pub lexeme : Token → Lexeme
lexeme t = record { kind = t.kind; text = t.text.now; place = t.place; first = t.first; joined = t.joined }

-- what is left of a source, where it begins, and whether a token ends there
pub record Cursor : Type 0 where
  pub rest : List ℕ
  pub place : Place
  pub behind : Bool

-- the beginning of a source
abbrev pub start : List ℕ → Cursor
start bytes = record { rest = bytes; place = first_place; behind = false }

-- whether no token stands before what follows a gap on its line, where a token ends before the gap or none does
abbrev pub is_first : Bool → List ℕ → Bool
is_first behind gap = not behind || has_line_feed gap

-- whether a token ends where the gap begins, and the gap is empty
abbrev pub is_joined : Bool → List ℕ → Bool
is_joined behind gap = behind && (length gap == 0)

-- only white space, comments and this token stand between two cursors
pub record Takes (at : Cursor) (t : Lexeme) (after : Cursor) : Type 0 where
  pub gap : List Piece
  pub parts : at.rest ≡ gap_text gap ++ (t.text ++ after.rest)
  pub space : IsGap gap (t.text ++ after.rest)
  pub fits : IsTextOf t.kind t.text
  pub longest : IsLongest t.text after.rest
  pub stands : t.place ≡ place_after at.place (gap_text gap)
  pub first : t.first ≡ is_first at.behind (gap_text gap)
  pub joined : t.joined ≡ is_joined at.behind (gap_text gap)
  pub next : after.place ≡ place_after t.place t.text
  pub behind : after.behind ≡ true

-- these tokens stand between two cursors
abbrev pub Divides : Cursor → List Lexeme → Cursor → Type 0
Divides at [] after = at ≡ after
Divides at (t ∷ ts) after = (mid : Cursor) × Takes at t mid × Divides mid ts after

-- a source is these tokens, white space and comments
abbrev pub Lexes : List ℕ → List Lexeme → Type 0
Lexes bytes ts = (last : Cursor) × Divides (start bytes) ts last × IsSpace last.rest
