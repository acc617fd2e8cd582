use Rattle.std.proofs.Common.{◌≡◌, drop, map}
use Rattle.cg_core.specs.Kernels.{the_core}
use Rattle.cg_inst.specs.Founds.{found_in}
use Rattle.cg_inst.specs.Lists.{with_instances}
use Rattle.cg_inst_types.specs.Layers.{types_at}
use Rattle.cg_inst_types.specs.Places.{Keeps}
use Rattle.cg_typing.specs.Instances.{mentioned_in}
use Rattle.cg_inst.proofs.found.Found.go_through.Given as goal

abbrev pub invariant-loop-node : goal.invariant-loop-node
invariant-loop-node l =
    Keeps l.fn.self.types l.self.types
    × (with_instances (found_in l.self) (mentioned_in (types_at l.fn.self.types l.types) (drop l.node-index (map (λ node. the_core node.now) l.nodes)))
    ≡ with_instances (found_in l.fn.self) (mentioned_in (types_at l.fn.self.types l.types) (map (λ node. the_core node.now) l.nodes)))
