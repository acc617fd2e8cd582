use Rattle.std.proofs.Common.{◌≡◌, take}
use Rattle.cg_certcheck_gots.proofs.got.copied_marks.Given as goal

abbrev pub invariant-loop-mark : goal.invariant-loop-mark
invariant-loop-mark l = l.list ≡ take l.mark-index l.marks
