use Rattle.std.proofs.Common.{◌≡◌, IfOk, subst}
use Rattle.cg_graphs.proofs.OrderSteps.{order_of}
use Rattle.cg_graphs.proofs.rank.by_rank.Goals as goal

pub returns : goal.returns
returns c =
    subst (λ positions. IfOk c.in_order.result (λ order. order.items ≡ positions))
    (order_of c.args.edges.now c.in-Ok.count c.in_ok-ranks.ranks.items c.in-Ok.ensures.1 c.in_ok-ranks.ensures)
    c.in_order.ensures
