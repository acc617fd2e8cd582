use Rattle.std.proofs.Common.{arith, [], refl}
use Rattle.std.proofs.lemmas.Grind.{common_steps}
use Rattle.std.proofs.lemmas.List.{length-map}
use Rattle.cg_graphs.specs.Orders.{lists}
use Rattle.cg_graphs.proofs.ReachSteps.{ends}
use Rattle.cg_graphs.proofs.reach.reaches_itself.Goals as goal

pub returns : goal.returns
returns c =
    let some = length-map c.args.edges.now (λ v. v.items) in
    ends (lists c.args.edges.now) c.args.from c.in_ok-marks.marks.items [] c.is_marked.result (omega arith) refl (grind (arith, common_steps)) c.in_ok-marks.ensures
