use Rattle.std.proofs.Common.{◌≡◌, ◌+◌, drop, map}
use Rattle.cg_base.specs.Types.{part_of, to_parts}
use Rattle.cg_eval_operations.specs.Positions.{position_among}
use Rattle.cg_eval_operations.proofs.parts.position_among.Given as goal

abbrev pub invariant-loop-part : goal.invariant-loop-part
invariant-loop-part l =
    (l.at ≡ l.part-index) × (position_among l.name (to_parts (map part_of l.part-items)) ≡ l.at + position_among l.name (to_parts (map part_of (drop l.part-index l.part-items))))
