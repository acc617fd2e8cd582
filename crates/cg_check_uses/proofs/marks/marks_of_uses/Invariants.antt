use Rattle.std.proofs.Common.{◌≡◌, ◌++◌, drop}
use Rattle.cg_check_uses.specs.Marks as splits
use Rattle.cg_check_uses.proofs.marks.marks_of_uses.Given as goal

abbrev pub invariant-loop-i : goal.invariant-loop-i
invariant-loop-i l = l.marks ++ splits.marks_of_uses (drop l.i l.first) (drop l.i l.second) ≡ splits.marks_of_uses l.first l.second
