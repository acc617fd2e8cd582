use Rattle.std.proofs.Common.{◌<◌, ◌∙◌, ap, arith, get_or, length, false}
use Rattle.std.proofs.lemmas.List.{length-map}
use Rattle.cg_graphs.specs.Orders.{lists}
use Rattle.cg_cmachine_layout.proofs.Settling.{stays}
use Rattle.cg_cmachine_layout.proofs.circles.holds_itself.Goals as goal

pub returns-then-stays : goal.returns-then-stays
returns-then-stays c =
    let within : c.loop-round.round < length (lists c.args.edges.now) = omega (arith, length-map c.args.edges.now (λ v. v.items)) in
    let same = c.in_ok-stays.ensures.stays c.if-stays.true in
    c.is_marked.ensures ∙ ap (λ l. get_or l c.args.at false) (c.as_slice.ensures.value ∙ same)
    ∙ stays (lists c.args.edges.now) c.args.at c.loop-round.round c.loop-round.marks.items c.go_on.new.marks.items within c.loop-round.invariant c.in_ok-stays.ensures.later same
