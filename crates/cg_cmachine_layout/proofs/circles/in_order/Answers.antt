use Rattle.std.proofs.Common.{map, ap, ◌∙◌}
use Rattle.cg_graphs.specs.Orders.{lists}
use Rattle.cg_cmachine_layout.specs.Tables.{slices, targets}
use Rattle.cg_cmachine_layout.proofs.Settling.{closed_edges}
use Rattle.cg_cmachine_layout.proofs.circles.in_order.Goals as goal

pub order-requires : goal.order-requires
order-requires c =
    closed_edges c.args.names.now c.args.members.items (lists c.as_slice-2.result.now)
    (ap lists c.as_slice-2.ensures.value ∙ c.in_ok-edges.ensures ∙ ap (λ l. map (targets c.args.names.now) (slices l)) c.as_slice.ensures.value) c.requires
