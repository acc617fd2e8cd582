-- The machine over items up to the depth, and where it stands.
use Rattle.std.specs.Prelude.{List, Option}
use Rattle.cg_base.specs.Reader.{Reader}
use Rattle.cg_surface.specs.Patterns.{Pattern}
use Rattle.cg_surface.specs.Exprs.{Expr}
use Rattle.cg_surface.specs.Programs.{Entry}
use Rattle.cg_parser_symbols.specs.Symbols.{Seen}
use Rattle.cg_parser_exprs_def.specs.Held as held_exprs
use Rattle.cg_parser_exprs_def.specs.Held.{types, patterns, Types, Patterns, bounded_exprs}
use Rattle.cg_parser_def.specs.Bounded.{bounded}
use Rattle.cg_parser_def.specs.Machine.{State}
use Rattle.cg_parser_def.specs.Machine as machine

-- where the reader of expressions stands
abbrev pub ExprHeld : Type 0
ExprHeld = held_exprs.Held

abbrev pub exprs : Reader ExprHeld Seen (Option Expr)
exprs = bounded_exprs

-- where the readers of the parts stand
pub record Read : Type 0 where
  pub types : Types
  pub patterns : Patterns
  pub exprs : ExprHeld

-- a state over bounded items
abbrev pub Held : Type 0
Held = State Types Patterns ExprHeld (Option Pattern) (Option (List Entry))

-- the machine over them
abbrev pub bounded_items : Reader Held Seen (Option (List Entry))
bounded_items = machine.reader types patterns exprs bounded
