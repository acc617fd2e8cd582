use Rattle.std.proofs.Common.{ℕ, ◌<◌, List, length, get_or, sym, ap, ◌∙◌, subst, below_more}
use Rattle.std.specs.List.{All}
use Rattle.std.proofs.lemmas.List.{get_or-map}
use Rattle.cg_graphs.specs.Orders.{lists}
use Rattle.cg_core_tests.proofs.circles.are_closed.Goals as goal

pub loop-at-preserved : goal.loop-at-preserved
loop-at-preserved c =
    let edges = c.args.edges.now in
    let IsNode = λ (j : ℕ). j < length edges in
    let here = λ (d : List ℕ). subst (All IsNode) (c.deref.ensures.value ∙ ap (λ v. v.items) c.index-edges-at.is ∙ sym (get_or-map (λ v. v.items) edges c.loop-at.at c.index-edges-at.result d c.loop-at-test.true)) c.if-not-are_nodes.ensures in
    λ i d lt. below_more (λ k. (d : List ℕ) → All IsNode (get_or (lists edges) k d)) c.loop-at.at (λ k less d. c.loop-at.invariant k d less) here i lt d
