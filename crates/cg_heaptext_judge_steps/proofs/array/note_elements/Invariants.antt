use Rattle.std.proofs.Common.{◌+◌, length}
use Rattle.cg_heaptext_judge_steps.proofs.Counting.{Counted}
use Rattle.cg_heaptext_judge_steps.proofs.array.note_elements.Given as goal

abbrev pub invariant-loop-token : goal.invariant-loop-token
invariant-loop-token l = Counted l.cell l.lexer (l.most + 1) l.fn.over l.found

abbrev pub decreases-loop-token : goal.decreases-loop-token
decreases-loop-token l = length l.lexer.rest
