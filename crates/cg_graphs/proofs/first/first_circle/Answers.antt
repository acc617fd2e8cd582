use Rattle.std.proofs.Common.{sym, subst}
use Rattle.std.proofs.lemmas.List.{length-map}
use Rattle.cg_graphs.specs.Orders.{lists}
use Rattle.cg_graphs.specs.Numbers.{StayOrFall}
use Rattle.cg_graphs.proofs.NumberSteps.{none_before}
use Rattle.cg_graphs.proofs.first.first_circle.Goals as goal

pub returns-then-branch : goal.returns-then-branch
returns-then-branch c =
    let edges = lists c.args.edges.now in
    let numbers = c.as_slice-numbers.result.now in
    let stay = subst (StayOrFall edges numbers) (sym (length-map c.args.edges.now (λ v. v.items))) (c.if-stay_or_fall.ensures) in
    record {
      circle = c.in_ok-reaches_itself.ensures.0 c.if-branch.true;
      first = none_before edges numbers stay c.fall_until-at.result c.fall_until-at.ensures;
    }
