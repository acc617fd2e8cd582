use Rattle.std.proofs.Common.{length}
use Rattle.cg_heaptext_cells.proofs.Gathering.{Gathered}
use Rattle.cg_heaptext_cells.proofs.array.elements.Given as goal

abbrev pub invariant-loop-numbers : goal.invariant-loop-numbers
invariant-loop-numbers l = Gathered l.cell l.lexer l.most l.numbers l.over

abbrev pub decreases-loop-numbers : goal.decreases-loop-numbers
decreases-loop-numbers l = length l.lexer.rest
