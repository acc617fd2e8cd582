use Rattle.std.proofs.Common.{length}
use Rattle.cg_parser_def.specs.Held.{bounded_items}
use Rattle.cg_parser.specs.Views.{reading_state, is_wrong}
use Rattle.cg_parser.proofs.Says.{Going}
use Rattle.cg_parser.proofs.Whole.{plain, held, laws, follows}
use Rattle.cg_parser.proofs.Wrong.{wrong_is, wrong_told}
use Rattle.cg_parser.proofs.program.parse.Given as goal

abbrev pub invariant-loop-reading : goal.invariant-loop-reading
invariant-loop-reading l = Going plain bounded_items held laws follows is_wrong wrong_is wrong_told l.bytes l.lexer (reading_state l.reading)

abbrev pub decreases-loop-reading : goal.decreases-loop-reading
decreases-loop-reading l = length l.lexer.rest
