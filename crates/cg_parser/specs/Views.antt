-- What the parser's own values stand for, over the readers of the parts up to the depth of the language.
use Rattle.std.specs.Prelude.{Bool, false, Option}
use Rattle.cg_surface.specs.Exprs.{Expr}
use Rattle.cg_parser_types.specs.States as type_state
use Rattle.cg_parser_patterns.specs.State as pattern_state
use Rattle.cg_parser_exprs_def.specs.Held.{is_wrong_bar}
use Rattle.cg_parser_exprs.specs.State as expr_state
use Rattle.cg_parser_exprs.specs.declared.reader.ExprEnd.{ExprEnd}
use Rattle.cg_parser_def.specs.Held.{Held, Read}
use Rattle.cg_parser_def.specs.Machine as machine
use Rattle.cg_parser_items.specs.Views.{items_of, state_of}
use Rattle.cg_parser.specs.declared.readers.Parts.{Parts}
use Rattle.cg_parser.specs.declared.program.Reading.{Reading}

-- how an expression ends
abbrev pub expr_end : ExprEnd → Option (Option Expr)
expr_end = expr_state.end_of

-- where the readers of the parts stand
abbrev pub parts_of : Parts → Read
parts_of p = record { types = type_state.reader_state p.types; patterns = pattern_state.reader_state p.patterns; exprs = expr_state.reader_state p.exprs }

-- where the reader of a source stands
abbrev pub reading_state : Reading → Held
reading_state r = state_of (items_of r.done) r.phase (parts_of r.parts)

-- whether it stopped at a bar at a wrong column
abbrev pub is_wrong : Held → Bool
is_wrong (machine.InBody before at x s) = is_wrong_bar s
is_wrong m = false
