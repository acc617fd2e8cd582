use Rattle.std.proofs.Common.{map, take, []}
use Rattle.std.specs.List.{flat_map}
use Rattle.cg_core.specs.Kernels.{the_core}
use Rattle.cg_typing.specs.Rules.{type_at}
use Rattle.cg_lower.specs.Collected.{called_at, Grows}
use Rattle.cg_lower.proofs.gather.Collected.add_nodes.Given as goal

abbrev pub invariant-loop-node : goal.invariant-loop-node
invariant-loop-node l =
    Grows l.fn.self.places l.self.places l.fn.self.structs.table l.self.structs.table
    (map type_at (map (λ node. the_core node.now) (take l.node-index l.nodes))) (flat_map called_at (map (λ node. the_core node.now) (take l.node-index l.nodes))) []
