-- What holds of all sources (docs/LANGUAGE.md, "Tokens").
use Rattle.std.specs.Prelude.{◌≡◌, ℕ, List}
use Rattle.cg_lexer.specs.declared.token.LexFault.{LexFault}
use Rattle.cg_lexer.specs.Gaps.{IsSpace}
use Rattle.cg_lexer.specs.Tokens.{Lexeme, Cursor, Takes, Lexes}
use Rattle.cg_lexer.specs.Next.{IsFault}

-- at a cursor stands at most one token, and one cursor stands behind it
abbrev pub OneToken : Type 0
OneToken = (at a b : Cursor) (t u : Lexeme) → Takes at t a → Takes at u b → (t ≡ u) × (a ≡ b)

-- a source is one list of tokens at most
abbrev pub OneDivision : Type 0
OneDivision = (bytes : List ℕ) (ts us : List Lexeme) → Lexes bytes ts → Lexes bytes us → ts ≡ us

-- at a cursor stands at most one fault, and where one does neither a token stands nor the end
pub record OneFault : Type 0 where
  pub same : (at : Cursor) (f g : LexFault) → IsFault at f → IsFault at g → f ≡ g
  pub no_token : (at after : Cursor) (t : Lexeme) (f : LexFault) → IsFault at f → Takes at t after → ⊥
  pub no_end : (at : Cursor) (f : LexFault) → IsFault at f → IsSpace at.rest → ⊥
