-- What holds of the cursors in all C texts.
use Rattle.std.specs.Prelude.{◌≡◌}
use Rattle.cg_base.specs.declared.place.Place.{Place}
use Rattle.cg_ctree.specs.Tokens.{Lexeme}
use Rattle.cg_cread_lexer.specs.Next.{Cursor, Stands}

-- behind a cursor stands at most one token, at one place (docs/LANGUAGE.md, "The C text", tokens)
abbrev pub OneStand : Type 0
OneStand = (old a b : Cursor) (t u : Lexeme) (p q : Place) → Stands old t p a → Stands old u q b → (t ≡ u) × (p ≡ q) × (a ≡ b)
