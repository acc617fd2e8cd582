use Rattle.std.proofs.Common.{◌≡◌, map, drop, take, slice_get, Some}
use Rattle.cg_base.specs.Types.{type_of, part_of}
use Rattle.cg_kinds.specs.Kinds.{subst, subst_piece}
use Rattle.cg_inst_types.specs.Forms.{with_arguments, with_parts}
use Rattle.cg_inst_types.specs.Places.{Keeps, type_at}
use Rattle.cg_inst_types.specs.Layers.{types_at}
use Rattle.cg_inst_types.proofs.layers.Layers.+enter.Given as goal

abbrev pub invariant-enter_arguments-loop-i : goal.invariant-enter_arguments-loop-i
invariant-enter_arguments-loop-i l =
    Keeps l.fn.self.types l.self.types
    × (slice_get l.self.types l.at
    ≡ Some (with_arguments (map (subst (types_at (take l.held l.fn.self.types) l.args)) (map type_of (drop l.i l.items))) (type_at l.fn.self.types l.rest)))

abbrev pub invariant-enter_parts-loop-i : goal.invariant-enter_parts-loop-i
invariant-enter_parts-loop-i l =
    Keeps l.fn.self.types l.self.types
    × (slice_get l.self.types l.at
    ≡ Some (with_parts (map (subst_piece (types_at (take l.held l.fn.self.types) l.args)) (map part_of (drop l.i l.items))) (type_at l.fn.self.types l.rest)))
