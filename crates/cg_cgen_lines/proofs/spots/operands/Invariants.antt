use Rattle.std.proofs.Common.{◌≡◌, map, take}
use Rattle.cg_cgen_def.specs.Places.{operand}
use Rattle.cg_cgen_lines.specs.Lines.{place_at}
use Rattle.cg_cgen_lines.proofs.spots.operands.Given as goal

abbrev pub invariant-loop-spot : goal.invariant-loop-spot
invariant-loop-spot l = l.operands ≡ map operand (map place_at (take l.spot-index l.spots))
