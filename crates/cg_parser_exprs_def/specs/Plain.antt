-- The machine over whole trees, however deep they are.
use Rattle.cg_base.specs.Reader.{Reader}
use Rattle.cg_surface.specs.Written.{Written, Writtens}
use Rattle.cg_surface.specs.Patterns.{Pattern}
use Rattle.cg_surface.specs.Exprs.{Expr, Exprs, FieldExprs, Binds, Alts}
use Rattle.cg_parser_symbols.specs.Symbols.{Seen}
use Rattle.cg_parser_build.specs.Plain.{trees}
use Rattle.cg_parser_exprs_def.specs.Machine as machine
use Rattle.cg_parser_exprs_def.specs.Machine.{Mode}

module _ {TS PS : Type 0} (types : Reader TS Seen Written) (patterns_reader : Reader PS Seen Pattern) where
  -- its states
  abbrev pub Stage : Type 0
  Stage = Mode Expr Exprs FieldExprs Binds Alts Writtens Pattern TS PS

  -- as a reader
  abbrev pub plain_reader : Reader Stage Seen Expr
  plain_reader = machine.reader types patterns_reader trees
