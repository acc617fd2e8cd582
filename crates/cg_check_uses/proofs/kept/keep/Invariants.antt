use Rattle.std.proofs.Common.{◌≡◌, drop}
use Rattle.cg_check_uses.specs.Marks.{keep_all}
use Rattle.cg_check_uses.proofs.kept.keep.Given as goal

abbrev pub invariant-loop-at : goal.invariant-loop-at
invariant-loop-at l = keep_all (drop l.at-index l.at-items) l.string ≡ keep_all l.at-items l.initial.string
