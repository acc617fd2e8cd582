use Rattle.std.proofs.Common.{◌≡◌, map, take}
use Rattle.cg_base.specs.Types.{type_of}
use Rattle.cg_inst.specs.Measured.{width_in, width_of}
use Rattle.cg_inst.proofs.widths.widths_of.Given as goal

abbrev pub invariant-loop-node : goal.invariant-loop-node
invariant-loop-node l = map width_in l.widths.items ≡ map (λ node. width_of (type_of node.now.note.ty)) (take l.node-index l.nodes)
