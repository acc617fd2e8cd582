-- How the bytes of a C text are divided into white space, comments and tokens (docs/LANGUAGE.md, "The C text").
use Rattle.std.specs.Prelude.{◌≡◌, ℕ, Bool, false, true, ◌||◌, ◌&&◌, ◌==◌, nat_le, List, [], ◌∷◌, ◌++◌, take, ⊤, codes}
use Rattle.std.specs.List.{list_any, AllByRecursion, flat_map}
use Rattle.std.specs.Str.{bytes_eq}
use Rattle.cg_base.specs.Bytes.{white, digit, Each, Starts, Stops}

-- a letter or the line below, with which a name begins ("The C text", names)
abbrev pub letter : ℕ → Bool
letter b = (nat_le 97 b && nat_le b 122) || (nat_le 65 b && nat_le b 90) || b == 95

-- what may go on a name ("The C text", names)
abbrev pub part_of_name : ℕ → Bool
part_of_name b = letter b || digit b

-- the words of C, which are no names ("The C text", words)
abbrev pub words : List (List ℕ)
words = codes "struct" ∷ codes "return" ∷ codes "if" ∷ codes "else" ∷ codes "while" ∷ codes "switch" ∷ codes "case" ∷ codes "break" ∷ codes "sizeof" ∷ codes "uint8_t" ∷ codes "uint16_t" ∷ codes "uint32_t" ∷ codes "uint64_t" ∷ []

-- whether a text is a word of C ("The C text", words)
abbrev pub is_word : List ℕ → Bool
is_word text = list_any (bytes_eq text) words

-- the signs of more than one byte ("The C text", signs)
abbrev pub long_signs : List (List ℕ)
long_signs = codes "->" ∷ codes "<<" ∷ codes ">>" ∷ codes "==" ∷ codes "!=" ∷ codes "<=" ∷ codes ">=" ∷ []

-- the signs of one byte ("The C text", signs)
abbrev pub short_signs : List (List ℕ)
short_signs = codes "{" ∷ codes "}" ∷ codes "(" ∷ codes ")" ∷ codes ";" ∷ codes "," ∷ codes ":" ∷ codes "." ∷ codes "=" ∷ codes "~" ∷ codes "+" ∷ codes "-" ∷ codes "*" ∷ codes "/" ∷ codes "%" ∷ codes "&" ∷ codes "|" ∷ codes "^" ∷ codes "<" ∷ codes ">" ∷ []

-- whether a text is a sign ("The C text", signs)
abbrev pub is_sign : List ℕ → Bool
is_sign text = list_any (bytes_eq text) short_signs || list_any (bytes_eq text) long_signs

-- the first include line, which is one token ("The C text", include lines)
abbrev pub first_line : List ℕ
first_line = codes "#include <stdint.h>"

-- the second include line, which is one token ("The C text", include lines)
abbrev pub second_line : List ℕ
second_line = codes "#include \"cogent.h\""

-- a token: a name, a word, a number without `ull` and one with it, each as its digits, a sign, or an include line
-- ("The C text", tokens)
pub data Token : Type 0 where
  name : List ℕ → Token
  word : List ℕ → Token
  plain : List ℕ → Token
  literal : List ℕ → Token
  sign : List ℕ → Token
  line : List ℕ → Token

-- the bytes of a token; a number and its `ull` are one token ("The C text", tokens)
abbrev pub token_text : Token → List ℕ
token_text (name x) = x
token_text (word x) = x
token_text (plain x) = x
token_text (literal x) = x ++ codes "ull"
token_text (sign x) = x
token_text (line x) = x

-- which texts a token of each kind may have ("The C text", tokens)
abbrev pub IsToken : Token → Type 0
IsToken (name x) = Starts letter x × Each part_of_name x × (is_word x ≡ false)
IsToken (word x) = is_word x ≡ true
IsToken (plain x) = Starts digit x × Each digit x
IsToken (literal x) = Starts digit x × Each digit x
IsToken (sign x) = is_sign x ≡ true
IsToken (line x) = (bytes_eq x first_line || bytes_eq x second_line) ≡ true

-- whether a sign and the byte behind it are a longer sign, or begin a comment ("The C text", tokens)
abbrev pub goes_on : List ℕ → List ℕ → Bool
goes_on x [] = false
goes_on x (b ∷ rest) = list_any (bytes_eq (x ++ b ∷ [])) (codes "/*" ∷ long_signs)

-- a token is the longest that fits, so what follows it doesn't go on with it ("The C text", tokens)
abbrev pub Ends : Token → List ℕ → Type 0
Ends (name x) rest = Stops part_of_name rest
Ends (word x) rest = Stops part_of_name rest
Ends (plain x) rest = Stops digit rest × (bytes_eq (take 3 rest) (codes "ull") ≡ false)
Ends (literal x) rest = ⊤
Ends (sign x) rest = goes_on x rest ≡ false
Ends (line x) rest = ⊤

-- what stands between tokens: a byte of white space, or a comment with what it has inside ("The C text", white space)
pub data Piece : Type 0 where
  blank : ℕ → Piece
  comment : List ℕ → Piece

-- the bytes of a piece ("The C text", white space)
abbrev pub piece_text : Piece → List ℕ
piece_text (blank b) = b ∷ []
piece_text (comment inside) = codes "/*" ++ inside ++ codes "*/"

-- whether a comment would end within these bytes ("The C text", white space)
abbrev pub closes : List ℕ → Bool
closes [] = false
closes (b ∷ bytes) = bytes_eq (take 2 (b ∷ bytes)) (codes "*/") || closes bytes

-- a comment goes to the next `*/` ("The C text", white space)
abbrev pub IsPiece : Piece → Type 0
IsPiece (blank b) = white b ≡ true
IsPiece (comment inside) = closes inside ≡ false

-- the bytes of pieces in a row ("The C text", white space)
abbrev pub gap_text : List Piece → List ℕ
gap_text gap = flat_map piece_text gap

-- whether a line ends within these bytes ("The C text", include lines)
abbrev pub has_line_feed : List ℕ → Bool
has_line_feed bytes = list_any (λ b. b == 10) bytes

-- a token, and whether it stands on a later line than the token before it, or than the beginning ("The C text", include lines)
pub record Lexeme : Type 0 where
  pub token : Token
  pub later : Bool

-- only white space, comments and this token stand before what is left ("The C text", tokens)
pub record Takes (bytes : List ℕ) (t : Lexeme) (rest : List ℕ) : Type 0 where
  pub gap : List Piece
  pub parts : bytes ≡ gap_text gap ++ (token_text t.token ++ rest)
  pub space : AllByRecursion IsPiece gap
  pub stands : t.later ≡ has_line_feed (gap_text gap)
  pub fits : IsToken t.token
  pub ends : Ends t.token rest

-- these tokens stand before what is left ("The C text", tokens)
abbrev pub Divides : List ℕ → List Lexeme → List ℕ → Type 0
Divides bytes [] rest = bytes ≡ rest
Divides bytes (t ∷ ts) rest = (mid : List ℕ) × Takes bytes t mid × Divides mid ts rest

-- a text is these tokens, white space and comments ("The C text", tokens)
abbrev pub Lexes : List ℕ → List Lexeme → Type 0
Lexes bytes ts = (last : List Piece) × AllByRecursion IsPiece last × Divides bytes ts (gap_text last)
