-- Where values of a heap file stand, and what they are without parentheses round them (docs/LANGUAGE.md, "Heap files").
use Rattle.std.specs.Prelude.{◌≡◌, ℕ, Bool, true, false, List, [], ◌∷◌, codes, Option, Some, None, ⊤}
use Rattle.cg_heaptext_def.specs.Grammar.{Reading, ReadsValue, ◌then◌, mark, token}
use Rattle.cg_heaptext_def.specs.Tokens.{Lexeme, lower, sign}
use Rattle.cg_heaptext_def.specs.Trees.{Written, numeral, truth, nothing, gone, address, constant, applied, inside, tuple, record', Fields, end, field, listed}
use Rattle.cg_heaptext_entries.specs.Index.{Before, numeral_of}
use Rattle.cg_heaptext_lexer.specs.Next.{Cursor}
use Rattle.cg_heaptext_values.specs.Turns.{turn}
use Rattle.cg_heaptext_values.specs.declared.head.Head.{Head}
use Rattle.cg_heaptext_values.specs.declared.head.Head.TheVariants as head
use Rattle.cg_heaptext_values.specs.declared.list.FieldsAt.{FieldsAt}
use Rattle.cg_heaptext_values.specs.declared.list.FieldAt.{FieldAt}
use Rattle.cg_heaptext_values.specs.declared.list.ValuesAt.{ValuesAt}
use Rattle.cg_heaptext_values.specs.declared.turn.Turn.{Turn}
use Rattle.cg_heaptext_values.specs.declared.turn.Turn.TheVariants.{Opens, Closes, Parts, Stays}

-- behind a value stands nothing, or a sign that parts or closes
abbrev pub is_end : Turn → Bool
is_end Closes = true
is_end Parts = true
is_end _ = false

abbrev pub EndsThere : List Lexeme → Type 0
EndsThere [] = ⊤
EndsThere (t ∷ ts) = is_end (turn t.token) ≡ true

-- the tokens from a cursor on begin with a value, behind which it ends
pub record StandsAt (at : Cursor) (v : Written) : Type 0 where
  pub ts : List Lexeme
  pub rest : List Lexeme
  pub before : Before at ts
  pub reads : ReadsValue v ts rest
  pub ends : EndsThere rest

-- a bracket that closes
abbrev pub closing : Reading
closing ts rest = (x : List ℕ) × (turn (sign x) ≡ Closes) × mark x ts rest

-- further values, with a comma before each, and the bracket behind them
abbrev pub ReadsOthers : List Written → Reading
ReadsOthers [] = closing
ReadsOthers (v ∷ vs) = mark (codes ",") then ReadsValue v then ReadsOthers vs

-- the value of a name, and further ones
abbrev pub ReadsNamed : List ℕ → Written → Reading
ReadsNamed x v = token (lower x) then mark (codes "=") then ReadsValue v

abbrev pub ReadsOtherFields : Fields → Reading
ReadsOtherFields end = closing
ReadsOtherFields (field x v fs) = mark (codes ",") then ReadsNamed x v then ReadsOtherFields fs

-- these values are left, where one is left or none
abbrev pub Listed : Bool → Cursor → List Written → Type 0
Listed false at [] = ⊤
Listed false at (v ∷ vs) = ⊥
Listed true at [] = ⊥
Listed true at (v ∷ vs) = (ts rest : List Lexeme) × Before at ts × (ReadsValue v then ReadsOthers vs) ts rest

abbrev pub ValuesStand : ValuesAt → List Written → Type 0
ValuesStand at vs = Listed at.more at.lexer vs

abbrev pub Named : Bool → Cursor → Fields → Type 0
Named false at end = ⊤
Named false at (field x v fs) = ⊥
Named true at end = ⊥
Named true at (field x v fs) = (ts rest : List Lexeme) × Before at ts × (ReadsNamed x v then ReadsOtherFields fs) ts rest

abbrev pub FieldsStand : FieldsAt → Fields → Type 0
FieldsStand at fs = Named at.more at.lexer fs

-- a value is what was told of it
abbrev pub IsHead : Head → Written → Type 0
IsHead (head.Number n) (numeral m) = numeral_of n ≡ m
IsHead (head.Truth b) (truth p c) = b ≡ c
IsHead head.Nothing (nothing p) = ⊤
IsHead head.Gone (gone p) = ⊤
IsHead (head.Address place n) (address p m) = (place ≡ p) × (numeral_of n ≡ m)
IsHead (head.Constant x) (constant p y) = x.now ≡ y
IsHead (head.Applied x v) (applied p y w) = (x.now ≡ y) × StandsAt v w
IsHead (head.Tuple vs) (tuple p ws) = ValuesStand vs (listed ws)
IsHead (head.Record fs) (record' p gs) = FieldsStand fs gs
IsHead _ _ = ⊥

-- the first of what is left, and the others
abbrev pub TakesValue : List Written → Option Cursor → ValuesAt → Type 0
TakesValue [] result new = result ≡ None
TakesValue (v ∷ vs) (Some at) new = StandsAt at v × ValuesStand new vs
TakesValue (v ∷ vs) None new = ⊥

abbrev pub TakesField : Fields → Option FieldAt → FieldsAt → Type 0
TakesField end result new = result ≡ None
TakesField (field x v fs) (Some at) new = (at.name.now ≡ x) × StandsAt at.value v × FieldsStand new fs
TakesField (field x v fs) None new = ⊥

-- Behind a token that was read, what was told is what any value is that begins with it and has no parentheses round it.
abbrev pub is_bare : Written → Bool
is_bare (inside p v) = false
is_bare _ = true

abbrev pub Tells : Lexeme → Cursor → Head → Type 0
Tells t at head = (w : Written) (ts rest : List Lexeme) → is_bare w ≡ true → Before at ts → ReadsValue w (t ∷ ts) rest → EndsThere rest → IsHead head w

-- whether the tokens begin with a value
abbrev pub begins_at : Turn → Bool
begins_at Opens = true
begins_at Stays = true
begins_at _ = false

abbrev pub begins : List Lexeme → Bool
begins [] = false
begins (t ∷ ts) = begins_at (turn t.token)
