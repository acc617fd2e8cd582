use Rattle.std.proofs.Common.{◌≡◌, map, take, true}
use Rattle.cg_base.specs.Types.{part_of}
use Rattle.cg_typing_parts.specs.Views.{marked}
use Rattle.cg_typing_parts.proofs.named.copies_taken.Given as goal

abbrev pub invariant-loop-part : goal.invariant-loop-part
invariant-loop-part l = map part_of l.copies ≡ map (marked true) (map part_of (take l.part-index l.part-items))
