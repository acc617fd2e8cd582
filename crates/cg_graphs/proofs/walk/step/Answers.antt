use Rattle.std.proofs.Common.{arith, get_or, take, subst, ap, ◌∙◌, sym, refl}
use Rattle.std.proofs.lemmas.List.{get_or_read}
use Rattle.cg_graphs.specs.Orders.{lists}
use Rattle.cg_graphs.specs.Walks.{state, mark_at, AreDone, seen_to}
use Rattle.cg_graphs.proofs.WalkSteps.{end_place, end_mark, seen_from, steps_back, meets_way, steps_down}
use Rattle.cg_graphs.proofs.walk.step.Goals as goal

pub index-requires : goal.index-requires
index-requires c = let lt = end_place (lists c.args.edges.now) (state c.args.walk.now) c.requires.walked c.args.at c.requires.last in omega (arith, c.args.walk.now.nexts.ok.0)

pub first_not_done-next-requires : goal.first_not_done-next-requires
first_not_done-next-requires c =
    let lt = end_place (lists c.args.edges.now) (state c.args.walk.now) c.requires.walked c.args.at c.requires.last in
    seen_from (lists c.args.edges.now) (state c.args.walk.now) c.requires.walked c.args.at c.requires.last c.targets_of-targets.result.now c.targets_of-targets.ensures c.as_slice.result.now c.index.result.now c.as_slice.ensures.value (get_or_read c.args.walk.now.nexts.items c.args.at c.index.result.now lt c.index.ensures 0)

pub index_mut-requires : goal.index_mut-requires
index_mut-requires c = let lt = end_place (lists c.args.edges.now) (state c.args.walk.now) c.requires.walked c.args.at c.requires.last in omega (arith, c.args.walk.now.nexts.ok.0)

pub finish-requires : goal.finish-requires
finish-requires c = end_mark (lists c.args.edges.now) (state c.args.walk.now) c.requires.walked c.args.at c.requires.last

pub returns-then-next-targets : goal.returns-then-next-targets
unfolding seen_to
returns-then-next-targets c =
    steps_back (lists c.args.edges.now) (state c.args.walk.now) c.requires.walked c.args.at c.requires.last c.targets_of-targets.result.now c.targets_of-targets.ensures c.first_not_done-next.result (subst (λ m. AreDone m (take c.first_not_done-next.result c.targets_of-targets.result.now)) c.as_slice.ensures.value c.first_not_done-next.ensures.before) (state c.finish.new.walk) c.if-next-targets.true c.in_ok-finish.ensures

pub returns-in_default : goal.returns-in_default
returns-in_default c =
    meets_way (lists c.args.edges.now) (state c.args.walk.now) c.requires.walked c.args.at c.requires.last c.targets_of-targets.result.now c.targets_of-targets.ensures c.first_not_done-next.result
    (subst (λ m. AreDone m (take c.first_not_done-next.result c.targets_of-targets.result.now)) c.as_slice.ensures.value c.first_not_done-next.ensures.before) (state c.args.walk.now) _ c.if-next-targets.false refl c.mark_of.result (c.mark_of.ensures ∙ ap (λ m. mark_at m (get_or c.targets_of-targets.result.now c.first_not_done-next.result 0)) c.as_slice-2.ensures.value) c.in_default.not-New (λ d. c.first_not_done-next.ensures.here c.if-next-targets.false (ap (λ m. mark_at m (get_or c.targets_of-targets.result.now c.first_not_done-next.result 0)) c.as_slice.ensures.value ∙ d))

pub returns : goal.returns
unfolding seen_to
returns c =
    steps_down (lists c.args.edges.now) (state c.args.walk.now) c.requires.walked c.args.at c.requires.last c.targets_of-targets.result.now c.targets_of-targets.ensures c.first_not_done-next.result
    (subst (λ m. AreDone m (take c.first_not_done-next.result c.targets_of-targets.result.now)) c.as_slice.ensures.value c.first_not_done-next.ensures.before) (state c.open.new.walk) _ c.if-next-targets.false refl c.requires.closed (sym (c.mark_of.ensures ∙ ap (λ m. mark_at m (get_or c.targets_of-targets.result.now c.first_not_done-next.result 0)) c.as_slice-2.ensures.value) ∙ c.in-New.is) c.in_ok-open-in-New.ensures
