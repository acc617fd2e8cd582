use Rattle.std.proofs.Common.{◌≡◌, ◌+◌, ◌≤◌, map, drop}
use Rattle.cg_base.specs.Types.{part_of, to_parts}
use Rattle.cg_typing.specs.Parts.{nodes_parts}
use Rattle.cg_heap.specs.Reps.{slots_of_parts}
use Rattle.cg_heap.proofs.layout.+slots.Given as goal

abbrev pub invariant-slots_of_parts-loop-part : goal.invariant-slots_of_parts-loop-part
invariant-slots_of_parts-loop-part l = record {
  within : l.total + nodes_parts (to_parts (map part_of (drop l.part-index l.part-items))) ≤ 1024;
  sum : l.total + slots_of_parts (to_parts (map part_of (drop l.part-index l.part-items))) ≡ slots_of_parts (to_parts (map part_of l.part-items));
}
