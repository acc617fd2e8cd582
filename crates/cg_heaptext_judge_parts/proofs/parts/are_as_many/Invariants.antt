use Rattle.cg_heaptext_judge_parts.proofs.Lefts.{LeftValues}
use Rattle.cg_heaptext_judge_parts.proofs.parts.are_as_many.Given as goal

abbrev pub invariant-loop-part : goal.invariant-loop-part
invariant-loop-part l = LeftValues l.parts l.part-index l.fn.values l.left
