use Rattle.std.proofs.Common.{◌≡◌, zero, drop, map}
use Rattle.cg_base.specs.Types.{part_of, to_parts}
use Rattle.cg_value.specs.Printed.{are_components}
use Rattle.cg_value.proofs.print.are_components.Given as goal

abbrev pub invariant-loop-i : goal.invariant-loop-i
invariant-loop-i l = are_components l.i (to_parts (map part_of (drop l.i l.parts))) ≡ are_components zero (to_parts (map part_of l.parts))
