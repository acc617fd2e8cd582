use Rattle.std.proofs.Common.{◌≡◌, map, drop}
use Rattle.cg_base.specs.Types.{type_of, part_of, to_taus, to_parts}
use Rattle.cg_driver_entry.specs.Types.{have_closed, parts_hold_closed}
use Rattle.cg_driver_entry.proofs.types.+closed.Given as goal

abbrev pub invariant-any_closed-loop-ty : goal.invariant-any_closed-loop-ty
invariant-any_closed-loop-ty l = have_closed (to_taus (map type_of (drop l.ty-index l.ty-items))) ≡ have_closed (to_taus (map type_of l.ty-items))

abbrev pub invariant-any_part_closed-loop-part : goal.invariant-any_part_closed-loop-part
invariant-any_part_closed-loop-part l = parts_hold_closed (to_parts (map part_of (drop l.part-index l.part-items))) ≡ parts_hold_closed (to_parts (map part_of l.part-items))
