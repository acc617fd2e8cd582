use Rattle.std.proofs.Common.{◌≡◌, ◌++◌, map, take, drop}
use Rattle.cg_base.specs.Types.{type_of, part_of}
use Rattle.cg_kinds.specs.Kinds.{bang, bang_piece}
use Rattle.cg_kinds.proofs.change.+bang.Given as goal

abbrev pub invariant-bang_types-loop-i : goal.invariant-bang_types-loop-i
invariant-bang_types-loop-i l =
    goal.unvisited-bang_types-loop-i l
    × (map type_of l.items ≡ map bang (take l.i (map type_of l.initial.items)) ++ drop l.i (map type_of l.initial.items))

abbrev pub invariant-bang_parts-loop-i : goal.invariant-bang_parts-loop-i
invariant-bang_parts-loop-i l =
    goal.unvisited-bang_parts-loop-i l
    × (map part_of l.items ≡ map bang_piece (take l.i (map part_of l.initial.items)) ++ drop l.i (map part_of l.initial.items))
