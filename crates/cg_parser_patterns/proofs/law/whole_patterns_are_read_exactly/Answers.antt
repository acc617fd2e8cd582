use Rattle.cg_parser_symbols.proofs.Exact.{is_exact}
use Rattle.cg_parser_patterns.specs.Grammar.{SpellsPattern}
use Rattle.cg_parser_patterns.specs.Plain.{plain_reader}
use Rattle.cg_parser_patterns.proofs.Laws.{laws}
use Rattle.cg_parser_patterns.proofs.law.whole_patterns_are_read_exactly.Goals as goal

pub returns : goal.returns
returns c = is_exact plain_reader SpellsPattern laws
