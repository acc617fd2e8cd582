-- What holds of all C texts.
use Rattle.std.specs.Prelude.{◌≡◌, ℕ, List}
use Rattle.cg_ctree.specs.Tokens.{Lexeme, Takes, Lexes}

-- behind a place of a text stands one token at most (docs/LANGUAGE.md, "The C text", tokens)
abbrev pub OneToken : Type 0
OneToken = (bytes a b : List ℕ) (t u : Lexeme) → Takes bytes t a → Takes bytes u b → (t ≡ u) × (a ≡ b)

-- a text is one list of tokens at most (docs/LANGUAGE.md, "The C text", tokens)
abbrev pub OneDivision : Type 0
OneDivision = (bytes : List ℕ) (ts us : List Lexeme) → Lexes bytes ts → Lexes bytes us → ts ≡ us
