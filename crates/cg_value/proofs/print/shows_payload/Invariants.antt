use Rattle.std.proofs.Common.{◌≡◌, drop, map}
use Rattle.cg_base.specs.Types.{part_of, to_parts}
use Rattle.cg_value.specs.Printed.{shows_payload}
use Rattle.cg_value.proofs.print.shows_payload.Given as goal

abbrev pub invariant-loop-part : goal.invariant-loop-part
invariant-loop-part l = shows_payload l.name (to_parts (map part_of (drop l.part-index l.parts))) ≡ shows_payload l.name (to_parts (map part_of l.parts))
