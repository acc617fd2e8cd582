use Rattle.std.proofs.Common.{◌≡◌, ◌++◌, map, take, drop}
use Rattle.cg_check_uses.specs.Marks.{keep_all}
use Rattle.cg_check_uses.proofs.kept.keep_in_all.Given as goal

abbrev pub invariant-loop-i : goal.invariant-loop-i
invariant-loop-i l = l.strings ≡ map (keep_all l.kept.items) (take l.i l.initial.strings) ++ drop l.i l.initial.strings
