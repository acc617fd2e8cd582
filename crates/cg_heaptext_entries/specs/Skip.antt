-- How a cell is passed over: its tokens are counted, and none is read.
use Rattle.std.specs.Prelude.{ℕ, zero, suc, Bool, ◌||◌, List, [], ◌∷◌, codes, Option, Some, None, if◌then◌else◌}
use Rattle.std.specs.Str.{bytes_eq}
use Rattle.cg_heaptext_def.specs.Tokens.{Lexeme, Token, number, lower, upper, sign}
use Rattle.cg_heaptext_lexer.specs.declared.token.TokenKind.{TokenKind}
use Rattle.cg_heaptext_lexer.specs.declared.token.TokenKind.TheVariants.{Number, Lower, Upper, Sign, Unknown, End}
use Rattle.cg_heaptext_entries.specs.declared.skip.Turn.{Turn}
use Rattle.cg_heaptext_entries.specs.declared.skip.Turn.TheVariants.{Opens, Closes, Stays, Over}

-- a bracket at which an unboxed record or a cell ends
abbrev pub is_closing : List ℕ → Bool
is_closing x = bytes_eq x (codes "}") || bytes_eq x (codes "]") || bytes_eq x (codes ">")

-- what a sign does to the depth
abbrev pub sign_turn : List ℕ → Turn
sign_turn x = if bytes_eq x (codes "#{") then Opens else if is_closing x then Closes else Stays

abbrev pub turn : Token → Turn
turn (number x) = Stays
turn (lower x) = Stays
turn (upper x) = Stays
turn (sign x) = sign_turn x

-- the same of what was read, which may be no token
abbrev pub read_turn : TokenKind → List ℕ → Turn
read_turn Number x = Stays
read_turn Lower x = Stays
read_turn Upper x = Stays
read_turn Sign x = sign_turn x
read_turn Unknown x = Over
read_turn End x = Over

-- how many unboxed records are open then; None behind the cell, and where no token stands
abbrev pub next_depth : Turn → ℕ → Option ℕ
next_depth Opens depth = Some (suc depth)
next_depth Closes zero = None
next_depth Closes (suc depth) = Some depth
next_depth Stays depth = Some depth
next_depth Over depth = None

-- the tokens behind a cell, of which so many unboxed records are open
abbrev pub skipped : Option ℕ → List Lexeme → List Lexeme
skipped None ts = ts
skipped (Some depth) [] = []
skipped (Some depth) (t ∷ ts) = skipped (next_depth (turn t.token) depth) ts
