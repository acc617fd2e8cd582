use Rattle.cg_graphs.specs.Orders.{lists}
use Rattle.cg_graphs.proofs.OrderSteps.{settled_by}
use Rattle.cg_graphs.proofs.ranks.ranks_of.Goals as goal

pub returns-then-branch : goal.returns-then-branch
returns-then-branch c =
    settled_by (lists c.args.edges.now) _ c.in_ok-ranks.ranks.items c.in_ok-are_settled.field-0 c.if-branch.true c.in_ok-are_settled.ensures
