use Rattle.cg_graphs.proofs.Standing.{has_nodes}
use Rattle.cg_graphs.proofs.law.order_has_nodes.Goals as goal

pub returns : goal.returns
returns c = λ edges. has_nodes edges
