use Rattle.std.proofs.Common.{◌≡◌, map, drop}
use Rattle.cg_base.specs.Types.{part_of, to_parts}
use Rattle.cg_typing.specs.Parts.{part_named}
use Rattle.cg_typing_parts.proofs.named.part_in.Given as goal

abbrev pub invariant-loop-part : goal.invariant-loop-part
invariant-loop-part l =
    part_named l.name (to_parts (map part_of (drop l.part-index l.part-items))) ≡ part_named l.name (to_parts (map part_of l.part-items))
