use Rattle.std.proofs.Common.{arith}
use Rattle.std.proofs.lemmas.List.{length-map}
use Rattle.cg_graphs.specs.Orders.{lists}
use Rattle.cg_graphs.specs.Walks.{state}
use Rattle.cg_graphs.proofs.WalkSteps.{back}
use Rattle.cg_graphs.proofs.walk.walk_all.Goals as goal

pub returns : goal.returns
returns c =
    let same = length-map c.args.edges.now (λ v. v.items) in
    back (lists c.args.edges.now) (state c.loop-root.walk) c.loop-root.invariant.kept c.loop-root.invariant.back (λ i lt. c.loop-root.invariant.met i (omega arith))
