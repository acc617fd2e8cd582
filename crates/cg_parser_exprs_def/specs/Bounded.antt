-- The machine over trees up to the depth of the language, past which there is none.
use Rattle.std.specs.Prelude.{Option}
use Rattle.cg_base.specs.Reader.{Reader}
use Rattle.cg_surface.specs.Written.{Written, Writtens}
use Rattle.cg_surface.specs.Patterns.{Pattern}
use Rattle.cg_surface.specs.Exprs.{Expr, Exprs, FieldExprs, Binds, Alts}
use Rattle.cg_parser_symbols.specs.Symbols.{Seen}
use Rattle.cg_parser_build.specs.Bounded.{bounded}
use Rattle.cg_parser_exprs_def.specs.Machine as machine
use Rattle.cg_parser_exprs_def.specs.Machine.{Mode}

module _ {TH PH : Type 0} (held_types : Reader TH Seen (Option Written)) (held_patterns : Reader PH Seen (Option Pattern)) where
  -- its states
  abbrev pub Held : Type 0
  Held = Mode (Option Expr) (Option Exprs) (Option FieldExprs) (Option Binds) (Option Alts) (Option Writtens) (Option Pattern) TH PH

  -- as a reader
  abbrev pub bounded_reader : Reader Held Seen (Option Expr)
  bounded_reader = machine.reader held_types held_patterns bounded
