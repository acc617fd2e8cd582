use Rattle.std.proofs.Common.{◌≡◌, ◌++◌, drop}
use Rattle.cg_check_uses.specs.Uses as tables
use Rattle.cg_check_uses.proofs.uses.mark_but.Given as goal

abbrev pub invariant-loop-i : goal.invariant-loop-i
invariant-loop-i l = l.flags.items ++ tables.mark_but (drop l.i l.seen) (drop l.i l.before) (drop l.i l.uses) ≡ tables.mark_but l.seen l.before l.uses
