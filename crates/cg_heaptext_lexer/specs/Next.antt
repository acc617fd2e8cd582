-- What the lexer of heap files answers (docs/LANGUAGE.md, "Heap files", tokens).
use Rattle.std.specs.Prelude.{◌≡◌, ℕ, false, List, [], ◌∷◌, ◌++◌}
use Rattle.cg_base.specs.Bytes.{white, Each}
use Rattle.cg_base.specs.declared.place.Place.{Place}
use Rattle.cg_base.specs.Places.{first_place, place_after}
use Rattle.cg_heaptext_def.specs.Tokens.{Token, number, lower, upper, sign, Lexeme, Takes, behind}
use Rattle.cg_heaptext_lexer.specs.declared.token.Token.{Token as Read}
use Rattle.cg_heaptext_lexer.specs.declared.token.TokenKind.{TokenKind}
use Rattle.cg_heaptext_lexer.specs.declared.token.TokenKind.TheVariants.{Number, Lower, Upper, Sign, Unknown, End}

-- what is left of a file, and where that begins
pub record Cursor : Type 0 where
  pub rest : List ℕ
  pub place : Place

-- the beginning of a file
abbrev pub start : List ℕ → Cursor
start bytes = record { rest = bytes; place = first_place }

-- the token of a kind with this text; the last two are no tokens
abbrev pub token_of : TokenKind → List ℕ → Token
token_of Number text = number text
token_of Lower text = lower text
token_of Upper text = upper text
token_of Sign text = sign text
token_of Unknown text = sign text
token_of End text = sign text

-- a token that was read, without where it lies in memory
abbrev pub lexeme : Read → Lexeme
lexeme t = record { token = token_of t.kind t.text.now; place = t.place }

-- this token stands next, and behind it stands the new cursor
pub record Stands (old : Cursor) (t : Lexeme) (new : Cursor) : Type 0 where
  pub takes : Takes old.place old.rest t new.rest
  pub next : new.place ≡ behind t

-- behind white space something stands, at this place, that is none and begins no token; reading stays there
pub record IsUnknown (old : Cursor) (place : Place) (new : Cursor) : Type 0 where
  pub gap : List ℕ
  pub byte : ℕ
  pub left : List ℕ
  pub parts : old.rest ≡ gap ++ byte ∷ left
  pub space : Each white gap
  pub dark : white byte ≡ false
  pub at : place ≡ place_after old.place gap
  pub stays : new ≡ record { rest = byte ∷ left; place = place }
  pub no_token : (t : Lexeme) (after : List ℕ) → Takes old.place old.rest t after → ⊥

-- only white space is left, and behind it stands the end, at this place, at which reading stays
pub record Finishes (old : Cursor) (place : Place) (new : Cursor) : Type 0 where
  pub space : Each white old.rest
  pub at : place ≡ place_after old.place old.rest
  pub stays : new ≡ record { rest = []; place = place }

-- what a kind says of what was read
abbrev pub Gives : TokenKind → Cursor → Lexeme → Cursor → Type 0
Gives Number old t new = Stands old t new
Gives Lower old t new = Stands old t new
Gives Upper old t new = Stands old t new
Gives Sign old t new = Stands old t new
Gives Unknown old t new = IsUnknown old t.place new
Gives End old t new = Finishes old t.place new

-- The next token and the cursor behind it; or what begins none, or the end, at which reading stays.
abbrev pub Next : Cursor → Read → Cursor → Type 0
Next old t new = Gives t.kind old (lexeme t) new

-- these tokens stand between two cursors
abbrev pub Walks : Cursor → List Lexeme → Cursor → Type 0
Walks at [] after = at ≡ after
Walks at (t ∷ ts) after = (mid : Cursor) × Stands at t mid × Walks mid ts after
