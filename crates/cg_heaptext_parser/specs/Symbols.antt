-- What the reader of heap files sees of a token (docs/LANGUAGE.md, "Heap files", the grammar).
use Rattle.std.specs.Prelude.{ℕ, Bool, true, false, List, codes, if◌then◌else◌}
use Rattle.std.specs.Str.{bytes_eq}
use Rattle.cg_lexer.specs.Tokens.{is_word}
use Rattle.cg_heaptext_def.specs.Grammar.{truth_text}
use Rattle.cg_heaptext_def.specs.Tokens.{Token, number, lower, upper, sign}

-- a number by its digits; a name that a field may have; `_`; another word; a Bool; a constructor; or a sign
pub data Symbol : Type 0 where
  Digits : List ℕ → Symbol
  Named : List ℕ → Symbol
  Wild : Symbol
  Truth : Bool → Symbol
  Constructor : List ℕ → Symbol
  At : Symbol
  Equals : Symbol
  Comma : Symbol
  OpenRecord : Symbol  -- `#{`
  OpenBrace : Symbol
  CloseBrace : Symbol
  OpenBracket : Symbol
  CloseBracket : Symbol
  OpenAngle : Symbol
  CloseAngle : Symbol
  OpenParen : Symbol
  CloseParen : Symbol
  Foreign : Symbol  -- a word of the language, or no sign

abbrev pub lower_symbol : List ℕ → Symbol
lower_symbol x = if bytes_eq x (codes "_") then Wild else if is_word x then Foreign else Named x

abbrev pub upper_symbol : List ℕ → Symbol
upper_symbol x = if bytes_eq x (truth_text true) then Truth true else if bytes_eq x (truth_text false) then Truth false else Constructor x

abbrev pub round_symbol : List ℕ → Symbol
round_symbol x =
    if bytes_eq x (codes "<") then OpenAngle
    else if bytes_eq x (codes ">") then CloseAngle
    else if bytes_eq x (codes "(") then OpenParen
    else if bytes_eq x (codes ")") then CloseParen
    else Foreign

abbrev pub bracket_symbol : List ℕ → Symbol
bracket_symbol x =
    if bytes_eq x (codes "{") then OpenBrace
    else if bytes_eq x (codes "}") then CloseBrace
    else if bytes_eq x (codes "[") then OpenBracket
    else if bytes_eq x (codes "]") then CloseBracket
    else round_symbol x

abbrev pub sign_symbol : List ℕ → Symbol
sign_symbol x =
    if bytes_eq x (codes "@") then At
    else if bytes_eq x (codes "=") then Equals
    else if bytes_eq x (codes ",") then Comma
    else if bytes_eq x (codes "#{") then OpenRecord
    else bracket_symbol x

abbrev pub symbol_of : Token → Symbol
symbol_of (number x) = Digits x
symbol_of (lower x) = lower_symbol x
symbol_of (upper x) = upper_symbol x
symbol_of (sign x) = sign_symbol x
