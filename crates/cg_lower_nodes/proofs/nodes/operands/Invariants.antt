use Rattle.std.proofs.Common.{◌≡◌, map, take}
use Rattle.cg_cgen_def.specs.Places.{operand}
use Rattle.cg_lower_nodes.specs.Views.{place_of}
use Rattle.cg_lower_nodes.proofs.nodes.operands.Given as goal

abbrev pub invariant-loop-value : goal.invariant-loop-value
invariant-loop-value l = l.operands ≡ map operand (map place_of (take l.value-index l.value-items))
