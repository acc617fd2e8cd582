use Rattle.std.proofs.Common.{◌≡◌, map, drop}
use Rattle.cg_base.specs.Types.{type_of, part_of, to_taus, to_parts}
use Rattle.cg_kinds.specs.Kinds.{kinds_all, kinds_parts, both}
use Rattle.cg_kinds.proofs.kind.+kinds.Given as goal

abbrev pub invariant-of_types-loop-ty : goal.invariant-of_types-loop-ty
invariant-of_types-loop-ty l =
    both l.found (kinds_all (map (λ b. b.kinds) l.vars) (to_taus (map type_of (drop l.ty-index l.ty-items))))
    ≡ kinds_all (map (λ b. b.kinds) l.vars) (to_taus (map type_of l.ty-items))

abbrev pub invariant-of_parts-loop-part : goal.invariant-of_parts-loop-part
invariant-of_parts-loop-part l =
    both l.found (kinds_parts (map (λ b. b.kinds) l.vars) (to_parts (map part_of (drop l.part-index l.part-items))))
    ≡ kinds_parts (map (λ b. b.kinds) l.vars) (to_parts (map part_of l.part-items))
