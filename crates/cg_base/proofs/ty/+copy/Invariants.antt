use Rattle.std.proofs.Common.{◌≡◌, map, take}
use Rattle.cg_base.specs.Types.{type_of, part_of}
use Rattle.cg_base.proofs.ty.+copy.Given as goal

abbrev pub invariant-copy_parts-loop-part : goal.invariant-copy_parts-loop-part
invariant-copy_parts-loop-part l = map part_of l.copies ≡ map part_of (take l.part-index l.part-items)

abbrev pub invariant-copy_types-loop-ty : goal.invariant-copy_types-loop-ty
invariant-copy_types-loop-ty l = map type_of l.copies ≡ map type_of (take l.ty-index l.ty-items)
