-- What the lexer answers (docs/LANGUAGE.md, "Tokens").
use Rattle.std.specs.Prelude.{◌≡◌, ℕ, true, false, List, [], ◌∷◌, ◌++◌, Option, Some, None, Result, Ok, Err, ⊤, if◌then◌else◌}
use Rattle.cg_base.specs.declared.place.Place.{Place}
use Rattle.cg_base.specs.Bytes.{Starts}
use Rattle.cg_base.specs.Places.{place_after}
use Rattle.cg_lexer.specs.declared.token.TokenKind.{TokenKind}
use Rattle.cg_lexer.specs.declared.token.TokenKind.TheVariants.{Lower, Upper, Number, Word, Sign, End}
use Rattle.cg_lexer.specs.declared.token.Token.{Token}
use Rattle.cg_lexer.specs.declared.token.LexFault.{LexFault}
use Rattle.cg_lexer.specs.declared.token.LexFault.TheVariants.{UnknownByte, OpenComment}
use Rattle.cg_lexer.specs.Bytes.{dark}
use Rattle.cg_lexer.specs.Gaps.{opens, dashes, Inside, IsInside, Piece, piece_text, block, gap_text, IsGap}
use Rattle.cg_lexer.specs.Tokens.{Lexeme, lexeme, Cursor, IsTextOf, is_first, is_joined, Takes}

-- behind white space and comments of a cursor these bytes are left, at this place
pub record Leaves (at : Cursor) (rest : List ℕ) (place : Place) : Type 0 where
  pub gap : List Piece
  pub parts : at.rest ≡ gap_text gap ++ rest
  pub space : IsGap gap rest
  pub stands : place ≡ place_after at.place (gap_text gap)

-- at this place stands a byte that is no white space, begins no comment and begins no token
pub record IsUnknown (at : Cursor) (place : Place) : Type 0 where
  pub rest : List ℕ
  pub leaves : Leaves at rest place
  pub left : Starts dark rest
  pub no_comment : (opens rest ≡ false) × (dashes rest ≡ false)
  pub no_token : (kind : TokenKind) (text more : List ℕ) → IsTextOf kind text → rest ≡ text ++ more → ⊥

-- at this place a block comment begins that is closed nowhere
pub record IsOpen (at : Cursor) (place : Place) : Type 0 where
  pub rest : List ℕ
  pub leaves : Leaves at rest place
  pub begins : opens rest ≡ true
  pub unclosed : (inside : Inside) (more : List ℕ) → IsInside inside → rest ≡ piece_text (block inside) ++ more → ⊥

-- only white space and comments are left, and behind them stands the empty text
pub record Finishes (at : Cursor) (t : Lexeme) : Type 0 where
  pub gap : List Piece
  pub parts : at.rest ≡ gap_text gap
  pub space : IsGap gap []
  pub empty : t.text ≡ []
  pub stands : t.place ≡ place_after at.place at.rest
  pub first : t.first ≡ is_first at.behind at.rest
  pub joined : t.joined ≡ is_joined at.behind at.rest

-- why no token can be read at a cursor
abbrev pub IsFault : Cursor → LexFault → Type 0
IsFault at (UnknownByte place) = IsUnknown at place
IsFault at (OpenComment place) = IsOpen at place

-- a token of this kind stands next; or the end, at which reading stays
abbrev pub Gives : TokenKind → Cursor → Lexeme → Cursor → Type 0
Gives Lower old t new = Takes old t new
Gives Upper old t new = Takes old t new
Gives (Number value) old t new = Takes old t new
Gives Word old t new = Takes old t new
Gives Sign old t new = Takes old t new
Gives End old t new = Finishes old t × (new ≡ old)

-- The next token and the cursor behind it; or why there is none, and reading stays.
abbrev pub Next : Cursor → Result Token LexFault → Cursor → Type 0
Next old (Ok token) new = Gives token.kind old (lexeme token) new
Next old (Err fault) new = IsFault old fault × (new ≡ old)

-- what is answered where no token is found behind the gap
abbrev pub stop_at : List ℕ → Token → Result Token LexFault
stop_at [] token = Ok token
stop_at (b ∷ rest) token = if opens (b ∷ rest) then Err (OpenComment token.place) else Err (UnknownByte token.place)

-- an answer at which reading stays
abbrev pub Stays : Cursor → Option (Result Token LexFault) → Type 0
Stays at None = ⊤
Stays at (Some answer) = Next at answer at
