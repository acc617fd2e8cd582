use Rattle.std.proofs.Common.{◌≡◌, ◌++◌, map, take, drop}
use Rattle.cg_base.specs.Types.{type_of, part_of}
use Rattle.cg_kinds.specs.Shapes.{shape, shape_piece}
use Rattle.cg_kinds.proofs.change.+shape.Given as goal

abbrev pub invariant-shape_types-loop-i : goal.invariant-shape_types-loop-i
invariant-shape_types-loop-i l =
    goal.unvisited-shape_types-loop-i l
    × (map type_of l.items ≡ map shape (take l.i (map type_of l.initial.items)) ++ drop l.i (map type_of l.initial.items))

abbrev pub invariant-shape_parts-loop-i : goal.invariant-shape_parts-loop-i
invariant-shape_parts-loop-i l =
    goal.unvisited-shape_parts-loop-i l
    × (map part_of l.items ≡ map shape_piece (take l.i (map part_of l.initial.items)) ++ drop l.i (map part_of l.initial.items))
