use Rattle.cg_parser_symbols.proofs.Exact.{is_exact}
use Rattle.cg_parser_types.specs.Grammar.{SpellsType}
use Rattle.cg_parser_types.specs.Plain.{plain_reader}
use Rattle.cg_parser_types.proofs.Laws.{laws}
use Rattle.cg_parser_types.proofs.law.whole_types_are_read_exactly.Goals as goal

pub returns : goal.returns
returns c = is_exact plain_reader SpellsType laws
