-- The machine of the code: over trees up to the depth, and the readers of types and patterns that are so too.
use Rattle.std.specs.Prelude.{Bool, true, false, Option}
use Rattle.cg_base.specs.Reader.{Reader}
use Rattle.cg_surface.specs.Written.{Written}
use Rattle.cg_surface.specs.Patterns.{Pattern}
use Rattle.cg_surface.specs.Exprs.{Expr, Exprs, FieldExprs, Binds, Alts}
use Rattle.cg_parser_symbols.specs.Symbols.{Seen}
use Rattle.cg_parser_types.specs.Bounded as bounded_types
use Rattle.cg_parser_patterns.specs.Bounded as bounded_patterns
use Rattle.cg_parser_exprs_def.specs.Bounded as bounded
use Rattle.cg_parser_exprs_def.specs.Machine as machine

-- the readers of types and of patterns, up to the depth, and their states
abbrev pub types : Reader bounded_types.Held Seen (Option Written)
types = bounded_types.bounded_reader

abbrev pub patterns : Reader bounded_patterns.Held Seen (Option Pattern)
patterns = bounded_patterns.bounded_reader

abbrev pub Types : Type 0
Types = bounded_types.Held

abbrev pub Patterns : Type 0
Patterns = bounded_patterns.Held

-- the machine's states over bounded trees, and its frames
abbrev pub Held : Type 0
Held = bounded.Held types patterns

abbrev pub Within : Type 0
Within = machine.Frame (Option Expr) (Option Exprs) (Option FieldExprs) (Option Binds) (Option Alts) (Option Pattern)

-- the machine over the bounded readers of types and patterns
abbrev pub bounded_exprs : Reader Held Seen (Option Expr)
bounded_exprs = bounded.bounded_reader types patterns

-- whether it stands at a bar at a wrong column
abbrev pub is_wrong_bar : Held → Bool
is_wrong_bar machine.WrongBar = true
is_wrong_bar m = false
