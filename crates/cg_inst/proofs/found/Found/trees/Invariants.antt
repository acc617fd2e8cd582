use Rattle.std.proofs.Common.{◌≡◌, map, take}
use Rattle.cg_base.specs.Types.{type_of}
use Rattle.cg_inst_types.specs.Layers.{types_at}
use Rattle.cg_inst.proofs.found.Found.trees.Given as goal

abbrev pub invariant-loop-at : goal.invariant-loop-at
invariant-loop-at l = map type_of l.trees ≡ types_at l.self.types (take l.at-index l.types)
