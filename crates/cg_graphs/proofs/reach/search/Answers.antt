use Rattle.std.proofs.Common.{rules, length, sym, subst}
use Rattle.std.proofs.lemmas.List.{length-map}
use Rattle.cg_graphs.specs.Orders.{lists}
use Rattle.cg_graphs.specs.Reached.{reached, IsSearch}
use Rattle.cg_graphs.proofs.ReachSteps.{begins, goes_on, lessens, no_items}
use Rattle.cg_graphs.proofs.reach.search.Goals as goal

pub loop-at-init : goal.loop-at-init
loop-at-init c =
    begins (lists c.args.edges.now) c.args.from (length c.args.edges.now) c.in_ok-marks.marks.items c.new-work.result.items c.targets_of.result.now _ (sym (length-map c.args.edges.now (λ v. v.items)))
    (c.in_ok-marks.ensures.items_if_clones_equal (λ y h. search rules)) c.new-work.ensures.items c.targets_of.ensures c.in_ok-mark_all.ensures

pub loop-at-smaller : goal.loop-at-smaller
loop-at-smaller c = lessens c.loop-at.marks.items c.loop-at.work.items c.pop.new.self.items _ c.in-Some.at _ c.in-Some.ensures.items c.in_ok-mark_all-2.ensures

pub loop-at-preserved : goal.loop-at-preserved
loop-at-preserved c =
    goes_on (lists c.args.edges.now) c.args.from c.loop-at.marks.items c.loop-at.work.items c.pop.new.self.items _ c.in-Some.at _ c.in-Some.ensures.items c.targets_of-in-Some.ensures c.in_ok-mark_all-2.ensures c.loop-at.invariant

pub returns : goal.returns
returns c =
    let empty = no_items _ c.loop-at.work.items c.pop.new.self.items c.in_default.ensures.cases.0 c.in_default.ensures.rest c.in_default.ensures.items in
    subst (λ w. IsSearch (lists c.args.edges.now) c.args.from (reached c.loop-at.marks.items w)) empty c.loop-at.invariant
