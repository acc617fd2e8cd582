use Rattle.std.proofs.Common.{◌≡◌, map, drop}
use Rattle.cg_base.specs.Types.{part_of, to_parts}
use Rattle.cg_typing.specs.Parts.{is_whole}
use Rattle.cg_typing_parts.proofs.named.whole.Given as goal

abbrev pub invariant-loop-part : goal.invariant-loop-part
invariant-loop-part l = is_whole (to_parts (map part_of (drop l.part-index l.part-items))) ≡ is_whole (to_parts (map part_of l.part-items))
