-- What the lexer of C texts answers (docs/LANGUAGE.md, "The C text").
use Rattle.std.specs.Prelude.{◌≡◌, ℕ, List, [], ◌∷◌, ◌++◌}
use Rattle.std.specs.List.{AllByRecursion}
use Rattle.cg_base.specs.declared.place.Place.{Place}
use Rattle.cg_base.specs.Places.{first_place, place_after}
use Rattle.cg_ctree.specs.Tokens.{Token, name, word, plain, literal, sign, line, token_text, Piece, piece_text, IsPiece, gap_text, Lexeme, Takes}
use Rattle.cg_cread_lexer.specs.declared.token.Token.{Token as Read}
use Rattle.cg_cread_lexer.specs.declared.token.TokenKind.{TokenKind}
use Rattle.cg_cread_lexer.specs.declared.token.TokenKind.TheVariants.{Name, Word, Plain, Literal, Sign, Line, Unknown, End}

-- what is left of a text, and where that begins
pub record Cursor : Type 0 where
  pub rest : List ℕ
  pub place : Place

-- the beginning of a text
abbrev pub start : List ℕ → Cursor
start bytes = record { rest = bytes; place = first_place }

-- the token of a kind with this text; the last two are no tokens
abbrev pub token_of : TokenKind → List ℕ → Token
token_of Name text = name text
token_of Word text = word text
token_of Plain text = plain text
token_of Literal text = literal text
token_of Sign text = sign text
token_of Line text = line text
token_of Unknown text = sign text
token_of End text = sign text

-- a token that was read, without where it lies in memory and where it stands
abbrev pub lexeme : Read → Lexeme
lexeme t = record { token = token_of t.kind t.text.now; later = t.later }

-- this token stands next, at this place, and behind it stands the new cursor
pub record Stands (old : Cursor) (t : Lexeme) (place : Place) (new : Cursor) : Type 0 where
  pub takes : Takes old.rest t new.rest
  pub at : place ≡ place_after old.place (gap_text takes.gap)
  pub next : new.place ≡ place_after place (token_text t.token)

-- behind white space and comments something stands, at this place, that is neither of them and begins no token; reading stays
-- there
pub record IsUnknown (old : Cursor) (place : Place) (new : Cursor) : Type 0 where
  pub gap : List Piece
  pub parts : old.rest ≡ gap_text gap ++ new.rest
  pub space : AllByRecursion IsPiece gap
  pub at : place ≡ place_after old.place (gap_text gap)
  pub stays : new.place ≡ place
  pub left : new.rest ≡ [] → ⊥
  pub no_space : (p : Piece) (more : List ℕ) → IsPiece p → new.rest ≡ piece_text p ++ more → ⊥
  pub no_token : (t : Lexeme) (after : List ℕ) → Takes old.rest t after → ⊥

-- only white space and comments are left, and behind them stands the empty text, at which reading stays
pub record Finishes (old : Cursor) (place : Place) (new : Cursor) : Type 0 where
  pub last : List Piece
  pub parts : old.rest ≡ gap_text last
  pub space : AllByRecursion IsPiece last
  pub at : place ≡ place_after old.place old.rest
  pub stays : new ≡ record { rest = []; place = place }

-- what a kind says of what was read
abbrev pub Gives : TokenKind → Cursor → Lexeme → Place → Cursor → Type 0
Gives Name old t place new = Stands old t place new
Gives Word old t place new = Stands old t place new
Gives Plain old t place new = Stands old t place new
Gives Literal old t place new = Stands old t place new
Gives Sign old t place new = Stands old t place new
Gives Line old t place new = Stands old t place new
Gives Unknown old t place new = IsUnknown old place new
Gives End old t place new = Finishes old place new

-- The next token and the cursor behind it; or what begins none, or the end, at which reading stays.
abbrev pub Next : Cursor → Read → Cursor → Type 0
Next old t new = Gives t.kind old (lexeme t) t.place new

-- these tokens stand between two cursors
abbrev pub Walks : Cursor → List Lexeme → Cursor → Type 0
Walks at [] after = at ≡ after
Walks at (t ∷ ts) after = (place : Place) × (mid : Cursor) × Stands at t place mid × Walks mid ts after
