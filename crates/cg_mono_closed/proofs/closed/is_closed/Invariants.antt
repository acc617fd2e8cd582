use Rattle.std.proofs.Common.{◌≡◌, drop}
use Rattle.cg_core.specs.Kernels.{the_core}
use Rattle.cg_mono_closed.specs.Closed.{closed_node}
use Rattle.cg_mono_closed.proofs.Loops.{seen_by}
use Rattle.cg_mono_closed.proofs.closed.is_closed.Given as goal

abbrev pub invariant-loop-node : goal.invariant-loop-node
invariant-loop-node l = seen_by closed_node (λ node. the_core node.now) l.node-items ≡ seen_by closed_node (λ node. the_core node.now) (drop l.node-index l.node-items)
