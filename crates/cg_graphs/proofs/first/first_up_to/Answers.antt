use Rattle.std.proofs.Common.{arith}
use Rattle.std.proofs.lemmas.List.{length-map}
use Rattle.cg_graphs.specs.Orders.{lists}
use Rattle.cg_graphs.proofs.Places.{reaches_in}
use Rattle.cg_graphs.proofs.first.first_up_to.Goals as goal

pub reaches_itself-requires : goal.reaches_itself-requires
reaches_itself-requires c =
    let inside = reaches_in (lists c.args.edges.now) c.args.on c.args.on c.requires in
    let same = length-map c.args.edges.now (λ v. v.items) in
    omega arith
