use Rattle.cg_graphs.proofs.Laws.{circle_at_node}
use Rattle.cg_graphs.proofs.law.circle_is_at_node.Goals as goal

pub returns : goal.returns
returns c = λ edges i is. circle_at_node edges i is
