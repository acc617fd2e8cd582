use Rattle.std.proofs.Common.{◌≡◌, ◌++◌, map, take, drop}
use Rattle.cg_base.specs.Types.{part_of}
use Rattle.cg_resolve_expand.specs.Taken.{all_taken_piece}
use Rattle.cg_resolve_expand.proofs.take.mark_all.Given as goal

abbrev pub invariant-loop-i : goal.invariant-loop-i
invariant-loop-i l = map part_of l.items ≡ map all_taken_piece (take l.i (map part_of l.initial.items)) ++ drop l.i (map part_of l.initial.items)
