-- What the grammar sees of a token (docs/LANGUAGE.md, "The C text").
use Rattle.std.specs.Prelude.{ℕ, Bool, true, false, ◌&&◌, ◌==◌, not, List, [], ◌∷◌, Option, Some, None, codes, decimal, if◌then◌else◌}
use Rattle.std.specs.List.{list_all}
use Rattle.std.specs.Str.{bytes_eq}
use Rattle.cg_base.specs.declared.kind.Word.{Word}
use Rattle.cg_base.specs.declared.kind.Word.TheVariants.{U8, U16, U32, U64}
use Rattle.cg_base.specs.Bytes.{digit}
use Rattle.cg_base.specs.Numbers.{literal_of}
use Rattle.cg_ctree.specs.declared.tree.COp.{COp}
use Rattle.cg_ctree.specs.declared.tree.COp.TheVariants as op
use Rattle.cg_ctree.specs.Spells.{spelled, op_sign}
use Rattle.cg_ctree.specs.Tokens.{Token, name, word, plain, literal, sign, line, first_line, second_line}
use Rattle.cg_cread_parts.specs.declared.symbol.Keyword.{Keyword}
use Rattle.cg_cread_parts.specs.declared.symbol.Keyword.TheVariants as key

-- a token by its use: a kind holds its text only where a tree keeps it. The last is a token that no program has ("The C text",
-- tokens and the grammar)
pub data Symbol : Type 0 where
  named : List ℕ → Symbol
  typed : Word → Symbol
  keyed : Keyword → Symbol
  number : ℕ → Symbol
  count : ℕ → Symbol
  opening : Symbol
  closing : Symbol
  begin : Symbol
  end : Symbol
  comma : Symbol
  semicolon : Symbol
  equals : Symbol
  tilde : Symbol
  colon : Symbol
  dot : Symbol
  arrow : Symbol
  operation : COp → Symbol
  first_include : Symbol
  second_include : Symbol
  other : Symbol

-- how a word of C is spelled ("The C text", words)
abbrev pub key_text : Keyword → List ℕ
key_text key.Struct = codes "struct"
key_text key.Return = codes "return"
key_text key.If = codes "if"
key_text key.Else = codes "else"
key_text key.While = codes "while"
key_text key.Switch = codes "switch"
key_text key.Case = codes "case"
key_text key.Break = codes "break"
key_text key.Sizeof = codes "sizeof"

-- the token of a symbol ("The C text", tokens and the grammar)
abbrev pub token_of : Symbol → Token
token_of (named x) = name x
token_of (typed w) = word (spelled w)
token_of (keyed k) = word (key_text k)
token_of (number n) = literal (decimal n)
token_of (count n) = plain (decimal n)
token_of opening = sign (codes "(")
token_of closing = sign (codes ")")
token_of begin = sign (codes "{")
token_of end = sign (codes "}")
token_of comma = sign (codes ",")
token_of semicolon = sign (codes ";")
token_of equals = sign (codes "=")
token_of tilde = sign (codes "~")
token_of colon = sign (codes ":")
token_of dot = sign (codes ".")
token_of arrow = sign (codes "->")
token_of (operation o) = sign (op_sign o)
token_of first_include = line first_line
token_of second_include = line second_line
token_of other = sign []

-- whether there is a digit too many in front: a zero before other digits, or no digit at all ("The C text", numbers)
abbrev pub leads : List ℕ → Bool
leads [] = true
leads (b ∷ []) = false
leads (b ∷ c ∷ digits) = b == 48

-- whether these bytes are the digits of a number, with no leading zero ("The C text", numbers)
abbrev pub is_decimal : List ℕ → Bool
is_decimal text = list_all digit text && not (leads text)

-- the number that these digits are written of, where it is at most 2^64 - 1 ("The C text", numbers)
abbrev pub number_of : List ℕ → Option ℕ
number_of text = if is_decimal text then literal_of text else None

-- the symbol of a literal ("The C text", numbers)
abbrev pub number_symbol : Option ℕ → Symbol
number_symbol None = other
number_symbol (Some n) = number n

-- the symbol of a number without `ull` ("The C text", numbers)
abbrev pub count_symbol : Option ℕ → Symbol
count_symbol None = other
count_symbol (Some n) = count n

-- the symbol of a word of five letters or less ("The C text", words)
abbrev pub short_symbol : List ℕ → Symbol
short_symbol text =
    if bytes_eq text (codes "if") then keyed key.If
    else if bytes_eq text (codes "else") then keyed key.Else
    else if bytes_eq text (codes "while") then keyed key.While
    else if bytes_eq text (codes "case") then keyed key.Case
    else if bytes_eq text (codes "break") then keyed key.Break
    else other

-- the symbol of a word that is none of these ("The C text", words)
abbrev pub long_symbol : List ℕ → Symbol
long_symbol text =
    if bytes_eq text (codes "switch") then keyed key.Switch
    else if bytes_eq text (codes "sizeof") then keyed key.Sizeof
    else short_symbol text

-- the symbol of a word that is no type of a word ("The C text", words)
abbrev pub key_symbol : List ℕ → Symbol
key_symbol text =
    if bytes_eq text (codes "struct") then keyed key.Struct
    else if bytes_eq text (codes "return") then keyed key.Return
    else long_symbol text

-- the symbol of a word that is no type of a word of 8 or 16 bits ("The C text", words)
abbrev pub wide_symbol : List ℕ → Symbol
wide_symbol text =
    if bytes_eq text (codes "uint32_t") then typed U32
    else if bytes_eq text (codes "uint64_t") then typed U64
    else key_symbol text

-- the symbol of a word ("The C text", words)
abbrev pub word_symbol : List ℕ → Symbol
word_symbol text =
    if bytes_eq text (codes "uint8_t") then typed U8
    else if bytes_eq text (codes "uint16_t") then typed U16
    else wide_symbol text

-- the operation of a sign ("The C text", `bin`)
abbrev pub op_of : List ℕ → Option COp
op_of text =
    if bytes_eq text (codes "+") then Some op.Add
    else if bytes_eq text (codes "-") then Some op.Sub
    else if bytes_eq text (codes "*") then Some op.Mul
    else if bytes_eq text (codes "/") then Some op.Div
    else if bytes_eq text (codes "%") then Some op.Rem
    else if bytes_eq text (codes "&") then Some op.And
    else if bytes_eq text (codes "|") then Some op.Or
    else if bytes_eq text (codes "^") then Some op.Xor
    else if bytes_eq text (codes "<<") then Some op.Shl
    else if bytes_eq text (codes ">>") then Some op.Shr
    else if bytes_eq text (codes "==") then Some op.Eq
    else if bytes_eq text (codes "!=") then Some op.Ne
    else if bytes_eq text (codes "<") then Some op.Lt
    else if bytes_eq text (codes ">") then Some op.Gt
    else if bytes_eq text (codes "<=") then Some op.Le
    else if bytes_eq text (codes ">=") then Some op.Ge
    else None

-- the symbol of an operation, where a sign is one ("The C text", `bin`)
abbrev pub op_symbol : Option COp → Symbol
op_symbol None = other
op_symbol (Some o) = operation o

-- the symbol of a sign ("The C text", signs)
abbrev pub sign_symbol : List ℕ → Symbol
sign_symbol text =
    if bytes_eq text (codes "(") then opening
    else if bytes_eq text (codes ")") then closing
    else if bytes_eq text (codes "{") then begin
    else if bytes_eq text (codes "}") then end
    else if bytes_eq text (codes ",") then comma
    else if bytes_eq text (codes ";") then semicolon
    else if bytes_eq text (codes "=") then equals
    else if bytes_eq text (codes "~") then tilde
    else if bytes_eq text (codes ":") then colon
    else if bytes_eq text (codes ".") then dot
    else if bytes_eq text (codes "->") then arrow
    else op_symbol (op_of text)

-- the symbol of an include line ("The C text", include lines)
abbrev pub line_symbol : List ℕ → Symbol
line_symbol text =
    if bytes_eq text first_line then first_include
    else if bytes_eq text second_line then second_include
    else other

-- the symbol of a token ("The C text", tokens)
abbrev pub symbol_of : Token → Symbol
symbol_of (name x) = named x
symbol_of (word x) = word_symbol x
symbol_of (plain x) = count_symbol (number_of x)
symbol_of (literal x) = number_symbol (number_of x)
symbol_of (sign x) = sign_symbol x
symbol_of (line x) = line_symbol x

-- whether a symbol is of an operand: a name, a number, a dot or an arrow ("The C text", `opnd`)
abbrev pub is_part : Symbol → Bool
is_part (named x) = true
is_part (number n) = true
is_part dot = true
is_part arrow = true
is_part y = false

-- whether a type begins with a symbol ("The C text", `ty`)
abbrev pub is_type : Symbol → Bool
is_type (typed w) = true
is_type (keyed key.Struct) = true
is_type y = false

-- whether a symbol goes on with a statement: all but a `;` and a `{` do ("The C text", `stmt`)
abbrev pub goes_on : Symbol → Bool
goes_on semicolon = false
goes_on begin = false
goes_on y = true

-- whether a symbol is `}` ("The C text", signs)
abbrev pub is_end : Symbol → Bool
is_end end = true
is_end y = false
