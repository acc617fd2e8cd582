-- That the reader of expressions is exact for its grammar (docs/LANGUAGE.md, "Expressions", "Bars" and "Limits").
use Rattle.std.specs.Prelude.{◌≡◌, ◌↔◌, List, [], ◌∷◌, ◌++◌, true, Some}
use Rattle.cg_base.specs.Reader.{Begins}
use Rattle.cg_surface.specs.Exprs.{Expr}
use Rattle.cg_parser_symbols.specs.Symbols.{Seen}
use Rattle.cg_parser_symbols.specs.Follows.{option_map}
use Rattle.cg_parser_types.specs.Grammar.{SpellsType}
use Rattle.cg_parser_patterns.specs.Grammar.{SpellsPattern}
use Rattle.cg_parser_build.specs.Bounded.{within}
use Rattle.cg_parser_exprs_def.specs.Held.{bounded_exprs, is_wrong_bar}
use Rattle.cg_parser_exprs_def.specs.Read.{Spells, expr_reader, behind, held_behind}
use Rattle.cg_parser_exprs_def.specs.Unfinished.{IsWrongBar}

-- an expression ends there exactly where the tokens spell it
abbrev pub ReadsExactly : Type 0
ReadsExactly = (ts : List Seen) (e : Expr) → (expr_reader.finish (behind ts) ≡ Some e) ↔ Spells ts e

-- the machine is open exactly where some tokens complete those read
abbrev pub OpenExactly : Type 0
OpenExactly = (ts : List Seen) → (expr_reader.is_open (behind ts) ≡ true) ↔ Begins Spells ts

-- the machine of the code is open where this one is, and ends with the same expression, which is none where it is too deep
abbrev pub KeepsToDepth : Type 0
KeepsToDepth = (ts : List Seen) → (bounded_exprs.is_open (held_behind ts) ≡ expr_reader.is_open (behind ts)) × (bounded_exprs.finish (held_behind ts) ≡ option_map within (expr_reader.finish (behind ts)))

-- where it is open, it stops at a token as a bar at a wrong column exactly where the token is such a bar
abbrev pub StopsAtWrongBars : Type 0
StopsAtWrongBars = (ts : List Seen) (t : Seen) → bounded_exprs.is_open (held_behind ts) ≡ true → (is_wrong_bar (held_behind (ts ++ t ∷ [])) ≡ true) ↔ IsWrongBar SpellsType SpellsPattern ts t
