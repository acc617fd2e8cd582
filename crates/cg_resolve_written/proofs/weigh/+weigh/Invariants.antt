use Rattle.std.proofs.Common.{◌≡◌, map, take}
use Rattle.cg_base.specs.Types.{type_of, part_of, to_taus, to_parts}
use Rattle.cg_resolve_written.specs.Capped.{capped}
use Rattle.cg_resolve_written.specs.Sizes.{weighed_all, weighed_parts}
use Rattle.cg_resolve_written.proofs.weigh.+weigh.Given as goal

abbrev pub invariant-weigh_types-loop-ty : goal.invariant-weigh_types-loop-ty
invariant-weigh_types-loop-ty l = l.total ≡ capped (weighed_all l.sizes (to_taus (map type_of (take l.ty-index l.ty-items))))

abbrev pub invariant-weigh_parts-loop-part : goal.invariant-weigh_parts-loop-part
invariant-weigh_parts-loop-part l = l.total ≡ capped (weighed_parts l.sizes (to_parts (map part_of (take l.part-index l.part-items))))
