-- What reading a C text answers, and why (docs/LANGUAGE.md, "The C text").
use Rattle.std.specs.Prelude.{◌≡◌, ℕ, List, [], ◌∷◌, ◌++◌, Result, Ok, Err, ⊤}
use Rattle.cg_base.specs.declared.place.Place.{Place}
use Rattle.cg_base.specs.Reader.{Begins}
use Rattle.cg_ctree.specs.declared.tree.CProgram.{CProgram}
use Rattle.cg_ctree.specs.Spells.{SpellsTokens, CSpells}
use Rattle.cg_ctree.specs.Tokens.{Lexeme}
use Rattle.cg_ctree.specs.Trees.{Program, program_of}
use Rattle.cg_cread_lexer.specs.Next.{Cursor, start, Stands, IsUnknown, Finishes, Walks}
use Rattle.cg_cread.specs.declared.fault.CFault.{CFault}
use Rattle.cg_cread.specs.declared.fault.CFault.TheVariants.{Text, Memory}

-- tokens that some program begins with, up to a cursor
pub record Viable (bytes : List ℕ) (front : List Lexeme) (at : Cursor) : Type 0 where
  pub walks : Walks (start bytes) front at
  pub begins : Begins SpellsTokens front

-- at a cursor stands, at this place, a token that no program has behind the front; or what begins no token; or the end, at which
-- no program ends
pub data IsUnexpected (front : List Lexeme) (at : Cursor) (place : Place) : Type 0 where
  at_token : (t : Lexeme) (after : Cursor) → Stands at t place after → (Begins SpellsTokens (front ++ t ∷ []) → ⊥) → IsUnexpected front at place
  at_unknown : (after : Cursor) → IsUnknown at place after → IsUnexpected front at place
  at_end : (after : Cursor) → Finishes at place after → ((p : Program) → SpellsTokens front p → ⊥) → IsUnexpected front at place

-- the bytes are a text of no program
abbrev pub NoProgram : List ℕ → Type 0
NoProgram bytes = (p : Program) → CSpells bytes p → ⊥

-- The answer is right: the program that is spelled, which is the only one; or the first token that no program goes on with.
abbrev pub Answers : List ℕ → Result CProgram CFault → Type 0
Answers bytes (Ok p) = CSpells bytes (program_of p) × ((q : Program) → CSpells bytes q → q ≡ program_of p)
Answers bytes (Err (Text place)) = (front : List Lexeme) × (at : Cursor) × Viable bytes front at × IsUnexpected front at place × NoProgram bytes
Answers bytes (Err Memory) = ⊤
