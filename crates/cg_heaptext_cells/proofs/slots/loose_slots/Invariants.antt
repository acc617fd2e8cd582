use Rattle.std.proofs.Common.{length}
use Rattle.cg_heaptext_cells.proofs.Loosening.{Loosened}
use Rattle.cg_heaptext_cells.proofs.slots.loose_slots.Given as goal

abbrev pub invariant-loop-slots : goal.invariant-loop-slots
invariant-loop-slots l = Loosened l.cell l.lexer l.held l.depth l.slots l.over

abbrev pub decreases-loop-slots : goal.decreases-loop-slots
decreases-loop-slots l = length l.lexer.rest
