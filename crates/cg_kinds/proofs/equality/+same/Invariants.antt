use Rattle.std.proofs.Common.{◌≡◌, map, take}
use Rattle.cg_base.specs.Types.{type_of, part_of}
use Rattle.cg_kinds.proofs.equality.+same.Given as goal

abbrev pub invariant-same_parts-loop-i : goal.invariant-same_parts-loop-i
invariant-same_parts-loop-i l = map part_of (take l.i l.xs) ≡ map part_of (take l.i l.ys)

abbrev pub invariant-same_types-loop-i : goal.invariant-same_types-loop-i
invariant-same_types-loop-i l = map type_of (take l.i l.xs) ≡ map type_of (take l.i l.ys)
