use Rattle.cg_surface.specs.Patterns.{depth_of}
use Rattle.cg_parser_symbols.proofs.Exact.{is_exact_up_to}
use Rattle.cg_parser_patterns.specs.Bounded.{depth_limit, bounded_reader}
use Rattle.cg_parser_patterns.specs.Grammar.{SpellsPattern}
use Rattle.cg_parser_patterns.specs.Plain.{plain_reader}
use Rattle.cg_parser_patterns.proofs.Follow.{held, follows}
use Rattle.cg_parser_patterns.proofs.Laws.{laws}
use Rattle.cg_parser_patterns.proofs.law.patterns_are_read_exactly.Goals as goal

pub returns : goal.returns
returns c = is_exact_up_to depth_limit depth_of plain_reader bounded_reader held SpellsPattern follows laws
