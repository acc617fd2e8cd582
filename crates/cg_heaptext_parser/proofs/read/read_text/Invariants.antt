use Rattle.std.proofs.Common.{length}
use Rattle.cg_heaptext_parser.specs.Views.{outline_of}
use Rattle.cg_heaptext_parser.proofs.Says.{Going}
use Rattle.cg_heaptext_parser.proofs.read.read_text.Given as goal

abbrev pub invariant-loop-reading : goal.invariant-loop-reading
invariant-loop-reading l = Going l.bytes l.lexer (outline_of l.reading)

abbrev pub decreases-loop-reading : goal.decreases-loop-reading
decreases-loop-reading l = length l.lexer.rest
