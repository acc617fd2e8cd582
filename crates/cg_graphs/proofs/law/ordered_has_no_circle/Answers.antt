use Rattle.cg_graphs.proofs.Laws.{order_has_no_circle}
use Rattle.cg_graphs.proofs.law.ordered_has_no_circle.Goals as goal

pub returns : goal.returns
returns c = λ edges order is. order_has_no_circle edges order is
