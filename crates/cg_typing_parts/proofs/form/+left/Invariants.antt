use Rattle.std.proofs.Common.{◌≡◌, ◌-◌, map, drop}
use Rattle.cg_base.specs.Types.{type_of, part_of, to_taus, to_parts}
use Rattle.cg_typing.specs.Parts.{nodes_all, nodes_parts}
use Rattle.cg_typing_parts.proofs.form.+left.Given as goal

abbrev pub invariant-left_after_types-loop-ty : goal.invariant-left_after_types-loop-ty
invariant-left_after_types-loop-ty l =
    l.rest - nodes_all (to_taus (map type_of (drop l.ty-index l.ty-items))) ≡ l.left - nodes_all (to_taus (map type_of l.ty-items))

abbrev pub invariant-left_after_parts-loop-part : goal.invariant-left_after_parts-loop-part
invariant-left_after_parts-loop-part l =
    l.rest - nodes_parts (to_parts (map part_of (drop l.part-index l.part-items))) ≡ l.left - nodes_parts (to_parts (map part_of l.part-items))
