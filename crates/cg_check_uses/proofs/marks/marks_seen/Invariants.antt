use Rattle.std.proofs.Common.{◌≡◌, ◌++◌, drop}
use Rattle.cg_check_uses.specs.Marks as splits
use Rattle.cg_check_uses.proofs.marks.marks_seen.Given as goal

abbrev pub invariant-loop-i : goal.invariant-loop-i
invariant-loop-i l = l.marks ++ splits.marks_seen (drop l.i l.seen) (drop l.i l.first) (drop l.i l.second) ≡ splits.marks_seen l.seen l.first l.second
