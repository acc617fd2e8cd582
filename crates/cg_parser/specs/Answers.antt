-- What parsing answers, and why.
use Rattle.std.specs.Prelude.{◌≡◌, ℕ, ◌≤◌, ◌<◌, false, List, [], ◌∷◌, ◌++◌, map, Option, Some, None, Result, Ok, Err, ⊤}
use Rattle.cg_base.specs.declared.place.Place.{Place}
use Rattle.cg_base.specs.Reader.{Begins}
use Rattle.cg_base.specs.Places.{place_after}
use Rattle.cg_lexer.specs.Gaps.{IsSpace}
use Rattle.cg_lexer.specs.Tokens.{Lexeme, Cursor, start, Takes, Divides}
use Rattle.cg_lexer.specs.Next.{IsUnknown, IsOpen}
use Rattle.cg_lexer.specs.declared.token.LexFault.{LexFault}
use Rattle.cg_lexer.specs.declared.token.LexFault.TheVariants.{UnknownByte, OpenComment}
use Rattle.cg_surface.specs.declared.program.Program.{Program}
use Rattle.cg_core.specs.declared.at.At.{At}
use Rattle.cg_surface.specs.Patterns.{Pattern}
use Rattle.cg_surface.specs.Programs.{Entry, program_of, program_depth}
use Rattle.cg_parser_symbols.specs.Symbols.{lower, equals, Seen, seen, is_first}
use Rattle.cg_parser_symbols.specs.Readings.{◌then◌, head, inner_sign, IsPart}
use Rattle.cg_parser_types.specs.Grammar.{SpellsType}
use Rattle.cg_parser_patterns.specs.Grammar.{SpellsPattern}
use Rattle.cg_parser_exprs_def.specs.Unfinished.{IsWrongBar}
use Rattle.cg_parser_def.specs.Bounded.{depth_limit}
use Rattle.cg_parser_def.specs.Grammar.{ReadsProgram, SpellsExpr, SpellsTokens, Spells}
use Rattle.cg_parser.specs.declared.fault.ParseFault.{ParseFault}
use Rattle.cg_parser.specs.declared.fault.ParseFault.TheVariants.{S1, S2, S3, S4, Nesting, Memory}

-- tokens that some program begins with, up to a cursor
pub record Viable (bytes : List ℕ) (front : List Lexeme) (at : Cursor) : Type 0 where
  pub divides : Divides (start bytes) front at
  pub begins : Begins SpellsTokens (map seen front)

-- In the body of a definition, behind these tokens, stands a bar that is first on its line at a wrong column: behind an expression,
-- it belongs to no match that it sees, and opens none.
pub record IsWrongBarIn (front : List Seen) (t : Seen) : Type 0 where
  pub done : List Entry
  pub at : At
  pub param : Pattern
  pub past : is_first t.place ≡ false
  pub read : (ReadsProgram SpellsType SpellsPattern SpellsExpr done then head (lower at.name) at.place then IsPart SpellsPattern param then inner_sign equals
      then IsPart (λ ts bar. IsWrongBar SpellsType SpellsPattern ts bar) t) front []

-- at a cursor stands a token, at this place, that no program has behind the front; or the end, at which none ends
pub data IsUnexpected (front : List Lexeme) (at : Cursor) (place : Place) : Type 0 where
  at_token : (t : Lexeme) (after : Cursor) → Takes at t after → place ≡ t.place → (Begins SpellsTokens (map seen front ++ seen t ∷ []) → ⊥)
      → (IsWrongBarIn (map seen front) (seen t) → ⊥) → IsUnexpected front at place
  at_end : IsSpace at.rest → place ≡ place_after at.place at.rest → ((p : List Entry) → SpellsTokens (map seen front) p → ⊥) → IsUnexpected front at place

-- at a cursor stands such a bar, at this place
pub record IsMisplaced (front : List Lexeme) (at : Cursor) (place : Place) : Type 0 where
  pub bar : Lexeme
  pub after : Cursor
  pub taken : Takes at bar after
  pub stands : place ≡ bar.place
  pub wrong : IsWrongBarIn (map seen front) (seen bar)

-- a lexer's fault, as the parser tells it
abbrev pub lexer_fault : LexFault → ParseFault
lexer_fault (UnknownByte place) = S1 place
lexer_fault (OpenComment place) = S2 place

abbrev pub NoProgram : List ℕ → Type 0
NoProgram bytes = (p : List Entry) → Spells bytes p → ⊥

-- The answer is right: the program that is spelled, which is the only one; a depth that is passed; or the first place
-- where a byte begins no token (S1), a comment that isn't closed begins (S2), no program goes on (S3), or a bar stands at a wrong
-- column (S4), where no program goes on either.
abbrev pub Answers : List ℕ → Result Program ParseFault → Type 0
Answers bytes (Ok p) = Spells bytes (program_of p) × (program_depth (program_of p) ≤ depth_limit) × ((q : List Entry) → Spells bytes q → q ≡ program_of p)
Answers bytes (Err (S1 place)) = (front : List Lexeme) × (at : Cursor) × Viable bytes front at × IsUnknown at place × NoProgram bytes
Answers bytes (Err (S2 place)) = (front : List Lexeme) × (at : Cursor) × Viable bytes front at × IsOpen at place × NoProgram bytes
Answers bytes (Err (S3 place)) = (front : List Lexeme) × (at : Cursor) × Viable bytes front at × IsUnexpected front at place × NoProgram bytes
Answers bytes (Err (S4 place)) = (front : List Lexeme) × (at : Cursor) × Viable bytes front at × IsMisplaced front at place × NoProgram bytes
Answers bytes (Err Nesting) = (p : List Entry) × Spells bytes p × (depth_limit < program_depth p) × ((q : List Entry) → Spells bytes q → q ≡ p)
Answers bytes (Err Memory) = ⊤

-- what is answered at the end of the tokens, which is at this place, where the reader over bounded items finishes with this
abbrev pub Concludes : Option (Option (List Entry)) → Place → Result Program ParseFault → Type 0
Concludes items place (Ok p) = items ≡ Some (Some (program_of p))
Concludes items place (Err (S1 q)) = ⊥
Concludes items place (Err (S2 q)) = ⊥
Concludes items place (Err (S3 q)) = (items ≡ None) × (q ≡ place)
Concludes items place (Err (S4 q)) = ⊥
Concludes items place (Err Nesting) = items ≡ Some None
Concludes items place (Err Memory) = ⊤
