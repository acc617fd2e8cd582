use Rattle.cg_surface.specs.Written.{depth_of}
use Rattle.cg_parser_symbols.proofs.Exact.{is_exact_up_to}
use Rattle.cg_parser_types.specs.Bounded.{depth_limit, bounded_reader}
use Rattle.cg_parser_types.specs.Grammar.{SpellsType}
use Rattle.cg_parser_types.specs.Plain.{plain_reader}
use Rattle.cg_parser_types.proofs.Follow.{held, follows}
use Rattle.cg_parser_types.proofs.Laws.{laws}
use Rattle.cg_parser_types.proofs.law.types_are_read_exactly.Goals as goal

pub returns : goal.returns
returns c = is_exact_up_to depth_limit depth_of plain_reader bounded_reader held SpellsType follows laws
