use Rattle.std.proofs.Common.{◌≡◌, ◌++◌, ◌&&◌, not, drop}
use Rattle.cg_check_uses.specs.Marks.{raised}
use Rattle.cg_check_uses.specs.Uses.{pairs}
use Rattle.cg_check_uses.proofs.marks.kept_beside.Given as goal

abbrev pub invariant-loop-i : goal.invariant-loop-i
invariant-loop-i l = l.kept.items ++ raised l.i (pairs (λ u v. not u.touched && v.touched) (drop l.i l.branch) (drop l.i l.other)) ≡ raised 0 (pairs (λ u v. not u.touched && v.touched) l.branch l.other)
