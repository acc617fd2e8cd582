-- The parser's reader: that of items, over those of types, patterns and expressions.
use Rattle.std.proofs.Common.{List, refl}
use Rattle.cg_base.specs.Reader.{Reader, Reads}
use Rattle.cg_surface.specs.Patterns.{Pattern}
use Rattle.cg_surface.specs.Programs.{Entry}
use Rattle.cg_parser_symbols.specs.Symbols.{Seen}
use Rattle.cg_parser_symbols.specs.Follows.{Follows}
use Rattle.cg_parser_types.specs.Grammar.{SpellsType}
use Rattle.cg_parser_types.specs.Plain as plain_types
use Rattle.cg_parser_types.proofs.Laws as type_laws
use Rattle.cg_parser_types.proofs.Follow as type_follows
use Rattle.cg_parser_patterns.specs.Grammar.{SpellsPattern}
use Rattle.cg_parser_patterns.specs.Plain as plain_patterns
use Rattle.cg_parser_patterns.proofs.Laws as pattern_laws
use Rattle.cg_parser_patterns.proofs.Follow as pattern_follows
use Rattle.cg_parser_build.specs.Bounded.{within as expr_within}
use Rattle.cg_parser_exprs_def.specs.Read.{ExprStage, expr_reader}
use Rattle.cg_parser_exprs_laws.proofs.Exactly as exprs_exactly
use Rattle.cg_parser_exprs_laws.proofs.Viable as expr_ends
use Rattle.cg_parser_def.specs.Bounded.{within_program}
use Rattle.cg_parser_def.specs.Grammar.{SpellsTokens, SpellsExpr}
use Rattle.cg_parser_def.specs.Machine.{State}
use Rattle.cg_parser_def.specs.Machine as machine
use Rattle.cg_parser_def.specs.Plain.{entries}
use Rattle.cg_parser_exprs_def.specs.Held.{types, patterns}
use Rattle.cg_parser_def.specs.Held.{exprs, ExprHeld, Held, bounded_items}
use Rattle.cg_parser.proofs.Complete.{Parts}
use Rattle.cg_parser.proofs.Viable as viable
use Rattle.cg_parser.proofs.Follow as follow

abbrev pub Stage : Type 0
Stage = State plain_types.Stage plain_patterns.Stage ExprStage Pattern (List Entry)

abbrev pub plain : Reader Stage Seen (List Entry)
plain = machine.reader plain_types.plain_reader plain_patterns.plain_reader expr_reader entries

pub parts : Parts plain_types.Stage plain_patterns.Stage ExprStage plain_types.plain_reader plain_patterns.plain_reader expr_reader SpellsType SpellsPattern SpellsExpr
parts = record {
  type_laws = type_laws.laws;
  pattern_laws = pattern_laws.laws;
  expr_laws = exprs_exactly.laws;
  type_ends = type_laws.viable_past;
  pattern_ends = pattern_laws.viable_past;
  expr_ends = expr_ends.viable_past plain_types.plain_reader plain_patterns.plain_reader SpellsType SpellsPattern exprs_exactly.asked;
  no_type = refl;
  no_pattern = refl;
  no_all = λ p. refl;
  no_colon = λ p. refl;
  no_equals = pattern_laws.ends;
}

-- it is exact
pub laws : Reads plain SpellsTokens
laws = viable.laws plain_types.plain_reader plain_patterns.plain_reader expr_reader SpellsType SpellsPattern SpellsExpr parts

abbrev pub expr_held : ExprStage → ExprHeld
expr_held = exprs_exactly.held

pub expr_follow : Follows expr_reader exprs expr_held expr_within
expr_follow = exprs_exactly.follows

abbrev pub held : Stage → Held
held = follow.held plain_types.plain_reader plain_patterns.plain_reader expr_reader types patterns exprs type_follows.held pattern_follows.held expr_held type_follows.follows pattern_follows.follows expr_follow

-- and the one up to the depth follows it
pub follows : Follows plain bounded_items held within_program
follows = follow.follows plain_types.plain_reader plain_patterns.plain_reader expr_reader types patterns exprs type_follows.held pattern_follows.held expr_held type_follows.follows pattern_follows.follows expr_follow
