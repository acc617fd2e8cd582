use Rattle.std.proofs.Common.{◌≡◌, ◌++◌, drop}
use Rattle.cg_check_uses.specs.Uses as tables
use Rattle.cg_check_uses.proofs.uses.mark.Given as goal

abbrev pub invariant-loop-i : goal.invariant-loop-i
invariant-loop-i l = l.flags.items ++ tables.mark (drop l.i l.before) (drop l.i l.uses) ≡ tables.mark l.before l.uses
