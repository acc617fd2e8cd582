use Rattle.std.proofs.Common.{◌≡◌, ◌+◌, ◌≤◌, ◌++◌, map, drop}
use Rattle.cg_base.specs.Types.{type_of, part_of, to_taus, to_parts}
use Rattle.cg_inst.specs.Measured.{own_nodes_all, own_nodes_parts, variables_in_all, variables_in_parts}
use Rattle.cg_inst_types.specs.Layers.{capped}
use Rattle.cg_inst.proofs.widths.+widths.Given as goal

abbrev pub invariant-push_types-loop-ty : goal.invariant-push_types-loop-ty
invariant-push_types-loop-ty l =
    (l.total ≤ 4294967295)
    × (capped (l.total + own_nodes_all (to_taus (map type_of (drop l.ty-index l.ty-items)))) ≡ capped (own_nodes_all (to_taus (map type_of l.ty-items))))
    × (l.variables.items ++ variables_in_all (to_taus (map type_of (drop l.ty-index l.ty-items))) ≡ l.initial.variables.items ++ variables_in_all (to_taus (map type_of l.ty-items)))

abbrev pub invariant-push_parts-loop-part : goal.invariant-push_parts-loop-part
invariant-push_parts-loop-part l =
    (l.total ≤ 4294967295)
    × (capped (l.total + own_nodes_parts (to_parts (map part_of (drop l.part-index l.part-items)))) ≡ capped (own_nodes_parts (to_parts (map part_of l.part-items))))
    × (l.variables.items ++ variables_in_parts (to_parts (map part_of (drop l.part-index l.part-items))) ≡ l.initial.variables.items ++ variables_in_parts (to_parts (map part_of l.part-items)))
