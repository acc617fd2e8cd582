use Rattle.std.proofs.Common.{Bool, length}
use Rattle.cg_heaptext_cells.proofs.Listing.{AreAnswers, Going, bit_in}
use Rattle.cg_heaptext_cells.proofs.allocator.answers.Given as goal

abbrev pub invariant-loop-token : goal.invariant-loop-token
invariant-loop-token l = Going Bool bit_in (AreAnswers l.cell) l.lexer l.answers

abbrev pub decreases-loop-token : goal.decreases-loop-token
decreases-loop-token l = length l.lexer.rest
