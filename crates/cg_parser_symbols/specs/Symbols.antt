-- What the grammar sees of a token.
use Rattle.std.specs.Prelude.{ℕ, Bool, ◌==◌, List, codes, Option, if◌then◌else◌}
use Rattle.std.specs.Str.{bytes_eq}
use Rattle.cg_base.specs.declared.place.Place.{Place}
use Rattle.cg_lexer.specs.declared.token.TokenKind.{TokenKind}
use Rattle.cg_lexer.specs.declared.token.TokenKind.TheVariants.{Lower, Upper, Number, Word, Sign, End}
use Rattle.cg_lexer.specs.Tokens.{Lexeme}

-- a token by its use: a kind holds its text only where a tree keeps it. A bar knows whether it is the first token on its line,
-- `<` and `>` whether they are joined to the token before them; `other` is the end alone
pub data Symbol : Type 0 where
  lower : List ℕ → Symbol
  upper : List ℕ → Symbol
  numeral : Option ℕ → Symbol
  wildcard : Symbol
  type_word : Symbol
  let_word : Symbol
  in_word : Symbol
  take_word : Symbol
  all_word : Symbol
  and_word : Symbol
  if_word : Symbol
  then_word : Symbol
  else_word : Symbol
  not_word : Symbol
  complement_word : Symbol
  upcast_word : Symbol
  true_word : Symbol
  false_word : Symbol
  opening : Symbol
  closing : Symbol
  brace : Symbol
  closing_brace : Symbol
  unboxed : Symbol
  bracket : Symbol
  closing_bracket : Symbol
  less : Bool → Symbol
  greater : Bool → Symbol
  colon : Symbol
  has_kinds : Symbol
  equals : Symbol
  arrow : Symbol
  bang : Symbol
  bar : Bool → Symbol
  comma : Symbol
  dot : Symbol
  dots : Symbol
  plus : Symbol
  minus : Symbol
  star : Symbol
  slash : Symbol
  percent : Symbol
  less_equal : Symbol
  greater_equal : Symbol
  equal : Symbol
  not_equal : Symbol
  both : Symbol
  either : Symbol
  bit_and : Symbol
  bit_or : Symbol
  bit_xor : Symbol
  other : Symbol

-- the symbol of a word
abbrev pub word_symbol : List ℕ → Symbol
word_symbol text =
    if bytes_eq text (codes "type") then type_word
    else if bytes_eq text (codes "let") then let_word
    else if bytes_eq text (codes "in") then in_word
    else if bytes_eq text (codes "take") then take_word
    else if bytes_eq text (codes "all") then all_word
    else if bytes_eq text (codes "and") then and_word
    else if bytes_eq text (codes "if") then if_word
    else if bytes_eq text (codes "then") then then_word
    else if bytes_eq text (codes "else") then else_word
    else if bytes_eq text (codes "not") then not_word
    else if bytes_eq text (codes "complement") then complement_word
    else if bytes_eq text (codes "upcast") then upcast_word
    else if bytes_eq text (codes "True") then true_word
    else if bytes_eq text (codes "False") then false_word
    else other

-- the symbol of a sign that is an operator and nothing else
abbrev pub operator_symbol : List ℕ → Symbol
operator_symbol text =
    if bytes_eq text (codes "+") then plus
    else if bytes_eq text (codes "-") then minus
    else if bytes_eq text (codes "*") then star
    else if bytes_eq text (codes "/") then slash
    else if bytes_eq text (codes "%") then percent
    else if bytes_eq text (codes "<=") then less_equal
    else if bytes_eq text (codes ">=") then greater_equal
    else if bytes_eq text (codes "==") then equal
    else if bytes_eq text (codes "/=") then not_equal
    else if bytes_eq text (codes "&&") then both
    else if bytes_eq text (codes "||") then either
    else if bytes_eq text (codes ".&.") then bit_and
    else if bytes_eq text (codes ".|.") then bit_or
    else if bytes_eq text (codes ".^.") then bit_xor
    else other

-- and of one that isn't a bracket; it is the first token on its line, or isn't
abbrev pub mark_symbol : List ℕ → Bool → Symbol
mark_symbol text first =
    if bytes_eq text (codes ":") then colon
    else if bytes_eq text (codes ":<") then has_kinds
    else if bytes_eq text (codes "=") then equals
    else if bytes_eq text (codes "->") then arrow
    else if bytes_eq text (codes "!") then bang
    else if bytes_eq text (codes "|") then bar first
    else if bytes_eq text (codes ",") then comma
    else if bytes_eq text (codes ".") then dot
    else if bytes_eq text (codes "..") then dots
    else if bytes_eq text (codes "_") then wildcard
    else operator_symbol text

-- and of any; it is joined to the token before it, or isn't
abbrev pub sign_symbol : List ℕ → Bool → Bool → Symbol
sign_symbol text first joined =
    if bytes_eq text (codes "(") then opening
    else if bytes_eq text (codes ")") then closing
    else if bytes_eq text (codes "{") then brace
    else if bytes_eq text (codes "}") then closing_brace
    else if bytes_eq text (codes "#{") then unboxed
    else if bytes_eq text (codes "[") then bracket
    else if bytes_eq text (codes "]") then closing_bracket
    else if bytes_eq text (codes "<") then less joined
    else if bytes_eq text (codes ">") then greater joined
    else mark_symbol text first

-- the symbol of a token: its kind, its text, whether it is the first on its line, and whether it is joined to the one before it
abbrev pub symbol_of : TokenKind → List ℕ → Bool → Bool → Symbol
symbol_of Lower text first joined = lower text
symbol_of Upper text first joined = upper text
symbol_of (Number value) text first joined = numeral value
symbol_of Word text first joined = word_symbol text
symbol_of Sign text first joined = sign_symbol text first joined
symbol_of End text first joined = other

-- a symbol at its place
pub record Seen : Type 0 where
  pub symbol : Symbol
  pub place : Place

abbrev pub seen : Lexeme → Seen
seen t = record { symbol = symbol_of t.kind t.text t.first t.joined; place = t.place }

-- a token at column 1 begins an item
abbrev pub is_first : Place → Bool
is_first p = p.column == 1
