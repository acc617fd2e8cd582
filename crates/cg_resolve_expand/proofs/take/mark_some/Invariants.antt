use Rattle.std.proofs.Common.{◌≡◌, ◌++◌, map, take, drop}
use Rattle.cg_base.specs.Types.{part_of}
use Rattle.cg_resolve_expand.specs.Taken.{names_in, taken_piece}
use Rattle.cg_resolve_expand.proofs.take.mark_some.Given as goal

abbrev pub invariant-loop-i : goal.invariant-loop-i
invariant-loop-i l = map part_of l.items ≡ map (taken_piece (names_in l.names)) (take l.i (map part_of l.initial.items)) ++ drop l.i (map part_of l.initial.items)
