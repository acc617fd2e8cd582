use Rattle.std.proofs.Common.{◌≡◌, ◌++◌, drop}
use Rattle.cg_check_uses.specs.Uses as tables
use Rattle.cg_check_uses.proofs.uses.join.Given as goal

abbrev pub invariant-loop-i : goal.invariant-loop-i
invariant-loop-i l = l.uses.items ++ tables.join (drop l.i l.first) (drop l.i l.second) ≡ tables.join l.first l.second
