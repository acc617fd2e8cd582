use Rattle.std.proofs.Common.{map, ap, ◌∙◌, sym}
use Rattle.cg_graphs.specs.Orders.{lists}
use Rattle.cg_cmachine_layout.specs.Tables.{slices, targets}
use Rattle.cg_cmachine_layout.proofs.Settling.{closed_edges, counted_within, members_within, settled_first, settled_second}
use Rattle.cg_cmachine_layout.proofs.circles.settle.Goals as goal

pub order-requires : goal.order-requires
order-requires c =
    closed_edges c.args.names.now c.in_ok-members.members.items (lists c.as_slice-2.result.now)
    (ap lists c.as_slice-2.ensures.value ∙ c.in_ok-edges.ensures ∙ ap (λ l. map (targets c.args.names.now) (slices l)) c.as_slice.ensures.value)
    (members_within c.args.structs.now c.args.names.now c.requires c.in_ok-members.members.items c.in_ok-members.ensures)

pub returns-in-Ok : goal.returns-in-Ok
returns-in-Ok c =
    settled_first c.args.structs.now c.args.names.now c.requires c.in_ok-members.members.items (lists c.as_slice-2.result.now) c.in-Ok.order.items c.in_ok-members.ensures
    (ap lists c.as_slice-2.ensures.value ∙ c.in_ok-edges.ensures ∙ ap (λ l. map (targets c.args.names.now) (slices l)) c.as_slice.ensures.value) c.in-Ok.ensures

pub in_order-requires : goal.in_order-requires
in_order-requires c =
    counted_within c.args.structs.now c.args.names.now c.requires (lists c.as_slice-in-Err-Circle.result.now) c.as_slice-in-Err-Circle-2.result.now c.in_ok-members-in-Err-Circle.members.items
    (ap slices c.as_slice-in-Err-Circle-2.ensures.value ∙ c.in_ok-members.ensures) c.in_ok-members-in-Err-Circle.ensures

pub returns : goal.returns
returns c =
    settled_second c.args.structs.now c.args.names.now c.requires c.as_slice-in-Err-Circle-2.result.now c.in_ok-members-in-Err-Circle.members (lists c.as_slice-in-Err-Circle.result.now)
    (ap slices c.as_slice-in-Err-Circle-2.ensures.value ∙ c.in_ok-members.ensures)
    (ap lists c.as_slice-in-Err-Circle.ensures.value ∙ c.in_ok-edges.ensures
    ∙ ap (λ l. map (targets c.args.names.now) (slices l)) (c.as_slice.ensures.value ∙ sym c.as_slice-in-Err-Circle-2.ensures.value))
    c.in_ok-members-in-Err-Circle.ensures c.in_order.result c.in_order.ensures.members c.in_order.ensures.order
