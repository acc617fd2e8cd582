-- The reader of the code as the machine over bounded trees.
use Rattle.std.specs.Prelude.{List, Option, Some, None}
use Rattle.cg_surface.specs.Exprs.{Expr, expr_of}
use Rattle.cg_parser_build.specs.Bounded.{bounded}
use Rattle.cg_parser_exprs_def.specs.Machine as machine
use Rattle.cg_parser_exprs_def.specs.Held.{Held, Within, types, patterns}
use Rattle.cg_parser_exprs_frames.specs.Stack.{stack_of, stage_of}
use Rattle.cg_parser_exprs.specs.declared.reader.ExprEnd.{ExprEnd}
use Rattle.cg_parser_exprs.specs.declared.reader.ExprEnd.TheVariants.{Unfinished, TooDeep, Whole}
use Rattle.cg_parser_exprs.specs.declared.reader.ExprReader.{ExprReader}

-- what ends there: no expression, one that is too deep, or an expression
abbrev pub end_of : ExprEnd → Option (Option Expr)
end_of Unfinished = None
end_of TooDeep = Some None
end_of (Whole b) = Some (Some (expr_of b.tree))

-- the expression that ends there, with all frames closed that need no token
abbrev pub end_whole : Option Expr → List Within → Option (Option Expr)
end_whole e fs = let r = machine.closed types patterns bounded 12 e fs in machine.whole types patterns bounded r.0 r.1

-- where the reader stands
unfoldable pub reader_state : ExprReader → Held
reader_state r = stage_of r.mode r.parts (stack_of r.stack)
