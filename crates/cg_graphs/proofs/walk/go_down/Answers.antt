use Rattle.std.proofs.Common.{◌<◌, ◌≡◌, length, sym, ap, ◌∙◌, subst, arith}
use Rattle.std.proofs.lemmas.List.{length-map}
use Rattle.cg_graphs.specs.declared.walk.Mark.TheVariants.{New}
use Rattle.cg_graphs.specs.Orders.{lists}
use Rattle.cg_graphs.specs.Walks.{state, mark_at, IsWalk, StaysMet}
use Rattle.cg_graphs.proofs.WalkSteps.{opened_walk, opened_met, opened_here, none_left}
use Rattle.cg_graphs.proofs.walk.go_down.Goals as goal

pub loop-at-init : goal.loop-at-init
loop-at-init c =
    let edges = lists c.args.edges.now in
    let old = state c.args.walk.now in
    let same = length-map c.args.edges.now (λ v. v.items) in
    let within : c.args.root < length edges = omega arith in
    let new : mark_at c.args.walk.now.marks.items c.args.root ≡ New = sym (c.mark_of.ensures ∙ ap (λ m. mark_at m c.args.root) c.as_slice.ensures.value) ∙ c.in-New.is in
    let e = sym c.in_ok-open-in-New.ensures in
    let none = ap length c.requires.back in
    record {
      kept = subst (IsWalk edges) e (opened_walk edges old c.requires.walked c.args.root within new (λ p lt. absurd (omega arith)));
      met = subst (StaysMet old) e (opened_met edges old c.requires.walked c.args.root within new);
      here = subst (λ s. mark_at s.marks c.args.root ≡ New → ⊥) e (opened_here edges old c.requires.walked c.args.root within new);
    }

pub returns : goal.returns
returns c = record {
  kept = c.loop-at.invariant.kept;
  back = none_left _ c.as_slice-in-loop-at.result.now c.as_slice-in-loop-at.ensures.value c.in_default-last.ensures;
  met = c.loop-at.invariant.met;
  here = c.loop-at.invariant.here;
}
