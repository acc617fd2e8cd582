-- What holds of the cursors in all heap files.
use Rattle.std.specs.Prelude.{◌≡◌}
use Rattle.cg_heaptext_def.specs.Tokens.{Lexeme}
use Rattle.cg_heaptext_lexer.specs.Next.{Cursor, Stands}

-- behind a cursor stands at most one token (docs/LANGUAGE.md, "Heap files", tokens)
abbrev pub OneStand : Type 0
OneStand = (old a b : Cursor) (t u : Lexeme) → Stands old t a → Stands old u b → (t ≡ u) × (a ≡ b)
