use Rattle.std.proofs.Common.{◌≡◌, map, take}
use Rattle.cg_base.specs.Types.{type_of, part_of}
use Rattle.cg_kinds.specs.Kinds.{subst, subst_piece}
use Rattle.cg_kinds.proofs.replace.+subst.Given as goal

abbrev pub invariant-subst_types-loop-ty : goal.invariant-subst_types-loop-ty
invariant-subst_types-loop-ty l =
    map type_of l.replaced ≡ map (subst (map type_of l.args)) (map type_of (take l.ty-index l.ty-items))

abbrev pub invariant-subst_parts-loop-part : goal.invariant-subst_parts-loop-part
invariant-subst_parts-loop-part l =
    map part_of l.replaced ≡ map (subst_piece (map type_of l.args)) (map part_of (take l.part-index l.part-items))
