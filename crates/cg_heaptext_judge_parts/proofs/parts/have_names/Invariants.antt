use Rattle.cg_heaptext_judge_parts.proofs.Lefts.{Left}
use Rattle.cg_heaptext_judge_parts.proofs.parts.have_names.Given as goal

abbrev pub invariant-loop-part : goal.invariant-loop-part
invariant-loop-part l = Left l.parts l.part-index l.fn.fields l.left
