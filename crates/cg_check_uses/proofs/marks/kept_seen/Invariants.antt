use Rattle.std.proofs.Common.{◌≡◌, ◌++◌, ◌&&◌, not, drop}
use Rattle.cg_check_uses.specs.Marks.{raised}
use Rattle.cg_check_uses.specs.Uses.{is_seen, pairs}
use Rattle.cg_check_uses.proofs.marks.kept_seen.Given as goal

abbrev pub invariant-loop-i : goal.invariant-loop-i
invariant-loop-i l = l.kept.items ++ raised l.i (pairs (λ s u. is_seen s && not u.touched) (drop l.i l.seen) (drop l.i l.part)) ≡ raised 0 (pairs (λ s u. is_seen s && not u.touched) l.seen l.part)
