use Rattle.std.proofs.Common.{◌≡◌, ◌++◌, map, drop, false}
use Rattle.cg_base.specs.Types.{part_of}
use Rattle.cg_typing_parts.proofs.MarkSteps.{left_to_mark}
use Rattle.cg_typing_parts.proofs.named.copies_with.Given as goal

abbrev pub invariant-loop-part : goal.invariant-loop-part
invariant-loop-part l =
    map part_of l.copies ++ left_to_mark l.found l.name l.taken (map part_of (drop l.part-index l.part-items))
    ≡ left_to_mark false l.name l.taken (map part_of l.part-items)
