-- How values are passed over, and how many parentheses stand round one: tokens are counted, and none is read.
use Rattle.std.specs.Prelude.{ℕ, zero, suc, ◌-◌, Bool, true, false, ◌||◌, min, List, [], ◌∷◌, codes, if◌then◌else◌}
use Rattle.std.specs.Str.{bytes_eq}
use Rattle.cg_heaptext_def.specs.Tokens.{Lexeme, Token, number, lower, upper, sign}
use Rattle.cg_heaptext_lexer.specs.declared.token.TokenKind.{TokenKind}
use Rattle.cg_heaptext_lexer.specs.declared.token.TokenKind.TheVariants.{Number, Lower, Upper, Sign, Unknown, End}
use Rattle.cg_heaptext_values.specs.declared.turn.Leading.{Leading}
use Rattle.cg_heaptext_values.specs.declared.turn.Leading.TheVariants as leading
use Rattle.cg_heaptext_values.specs.declared.turn.NameKind.{NameKind}
use Rattle.cg_heaptext_values.specs.declared.turn.NameKind.TheVariants.{True, False, Constructor}
use Rattle.cg_heaptext_values.specs.declared.turn.Opening.{Opening}
use Rattle.cg_heaptext_values.specs.declared.turn.Opening.TheVariants.{Address, Record, Parenthesis}
use Rattle.cg_heaptext_values.specs.declared.turn.Turn.{Turn}
use Rattle.cg_heaptext_values.specs.declared.turn.Turn.TheVariants.{Opens, Closes, Parts, Stays, Over}

abbrev pub is_opening : List ℕ → Bool
is_opening x = bytes_eq x (codes "(") || bytes_eq x (codes "#{")

abbrev pub is_closing : List ℕ → Bool
is_closing x = bytes_eq x (codes ")") || bytes_eq x (codes "}")

-- what a sign does
abbrev pub sign_turn : List ℕ → Turn
sign_turn x = if is_opening x then Opens else if is_closing x then Closes else if bytes_eq x (codes ",") then Parts else Stays

abbrev pub turn : Token → Turn
turn (number x) = Stays
turn (lower x) = Stays
turn (upper x) = Stays
turn (sign x) = sign_turn x

-- the same of what was read, which may be no token
abbrev pub read_turn : TokenKind → List ℕ → Turn
read_turn Number x = Stays
read_turn Lower x = Stays
read_turn Upper x = Stays
read_turn Sign x = sign_turn x
read_turn Unknown x = Over
read_turn End x = Over

-- ---- in front of a value

-- what a sign begins, and what a large name is
abbrev pub opening : List ℕ → Opening
opening x = if bytes_eq x (codes "@") then Address else if bytes_eq x (codes "#{") then Record else Parenthesis

abbrev pub name_kind : List ℕ → NameKind
name_kind x = if bytes_eq x (codes "True") then True else if bytes_eq x (codes "False") then False else Constructor

-- ---- to the end of a value

-- so many brackets are open in the value; or its end was passed, and another value stands behind it or none
pub data Pass : Type 0 where
  inside : ℕ → Pass
  ended : Bool → Pass

abbrev pub passes : Turn → ℕ → Pass
passes Opens d = inside (suc d)
passes Closes zero = ended false
passes Closes (suc d) = inside d
passes Parts zero = ended true
passes Parts (suc d) = inside (suc d)
passes Stays d = inside d
passes Over d = ended false

-- whether another value stands behind it, and the tokens from there on
abbrev pub passed : Pass → List Lexeme → Bool × List Lexeme
passed (ended b) ts = (b, ts)
passed (inside d) [] = (false, [])
passed (inside d) (t ∷ ts) = passed (passes (turn t.token) d) ts

-- ---- parentheses round a value

-- what a token is in front of a value
abbrev pub sign_leading : List ℕ → Leading
sign_leading x = if bytes_eq x (codes "(") then leading.Opens else if bytes_eq x (codes ")") then leading.Closes else leading.Other

abbrev pub leads : Token → Leading
leads (number x) = leading.Other
leads (lower x) = leading.Other
leads (upper x) = leading.Other
leads (sign x) = sign_leading x

-- the same of what was read
abbrev pub read_leading : TokenKind → List ℕ → Leading
read_leading Number x = leading.Other
read_leading Lower x = leading.Other
read_leading Upper x = leading.Other
read_leading Sign x = sign_leading x
read_leading Unknown x = leading.Other
read_leading End x = leading.Other

-- the parentheses that open in front, and one more where no `)` stands behind them; of a token, and those behind it
abbrev pub lead_on : Leading → ℕ → ℕ
lead_on leading.Opens n = suc n
lead_on leading.Closes n = 0
lead_on leading.Other n = 1

abbrev pub lead : List Lexeme → ℕ
lead [] = 1
lead (t ∷ ts) = lead_on (leads t.token) (lead ts)

-- the least depth at which a comma was met, of tokens at this depth; or the value has ended
pub data Seek : Type 0 where
  seeking : ℕ → ℕ → Seek
  found : ℕ → Seek

abbrev pub seeks : Turn → ℕ → ℕ → Seek
seeks Opens d m = seeking (suc d) m
seeks Closes zero m = found m
seeks Closes (suc zero) m = found m
seeks Closes (suc (suc d)) m = seeking (suc d) m
seeks Parts zero m = seeking zero (min m 1)
seeks Parts (suc d) m = seeking (suc d) (min m (suc d))
seeks Stays d m = seeking d m
seeks Over d m = found m

abbrev pub sought : Seek → List Lexeme → ℕ
sought (found m) ts = m
sought (seeking d m) [] = m
sought (seeking d m) (t ∷ ts) = sought (seeks (turn t.token) d m) ts

-- how many parentheses stand round a value, of the tokens from its first one on: none, where not one opens, or it is unit; else all that stand
-- round the first comma, or round its end where no comma stands in them alone
abbrev pub layers_from : ℕ → List Lexeme → ℕ
layers_from zero ts = 0
layers_from (suc zero) ts = 0
layers_from (suc (suc n)) ts = sought (seeking 0 (suc (suc n))) ts - 1

abbrev pub layers_of : List Lexeme → ℕ
layers_of ts = layers_from (lead ts) ts
