-- Expressions over the readers of types and patterns: what the tokens spell, and where the machines stand behind them.
use Rattle.std.specs.Prelude.{List}
use Rattle.cg_base.specs.Reader.{Reader, run}
use Rattle.cg_surface.specs.Exprs.{Expr}
use Rattle.cg_parser_symbols.specs.Symbols.{Seen}
use Rattle.cg_parser_types.specs.Grammar.{SpellsType}
use Rattle.cg_parser_types.specs.Plain as plain_types
use Rattle.cg_parser_patterns.specs.Grammar.{SpellsPattern}
use Rattle.cg_parser_patterns.specs.Plain as plain_patterns
use Rattle.cg_parser_exprs_def.specs.Grammar.{SpellsExpr}
use Rattle.cg_parser_exprs_def.specs.Plain.{Stage, plain_reader}
use Rattle.cg_parser_exprs_def.specs.Held.{Held, bounded_exprs}

-- the tokens spell the expression
abbrev pub Spells : List Seen → Expr → Type 0
Spells = SpellsExpr SpellsType SpellsPattern

-- the machine over whole trees, and where it stands behind some tokens
abbrev pub ExprStage : Type 0
ExprStage = Stage plain_types.plain_reader plain_patterns.plain_reader

abbrev pub expr_reader : Reader ExprStage Seen Expr
expr_reader = plain_reader plain_types.plain_reader plain_patterns.plain_reader

abbrev pub behind : List Seen → ExprStage
behind ts = run expr_reader expr_reader.begin ts

-- where the machine of the code stands, up to the depth
abbrev pub held_behind : List Seen → Held
held_behind ts = run bounded_exprs bounded_exprs.begin ts
