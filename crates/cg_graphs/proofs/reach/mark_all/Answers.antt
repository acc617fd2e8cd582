use Rattle.std.proofs.Common.{arith, sym, subst, ◌≡◌, drop, ◌+◌}
use Rattle.cg_graphs.specs.Reached.{Reached, reached, mark_all}
use Rattle.cg_graphs.proofs.ReachSteps.{mark_turn, mark_end}
use Rattle.cg_graphs.proofs.reach.mark_all.Goals as goal

pub loop-target-preserved : goal.loop-target-preserved
loop-target-preserved c =
    subst (λ (r : Reached). mark_all r (drop (c.loop-target.target-index + 1) c.args.targets.now) ≡ mark_all (reached c.args.marks.now.items c.args.work.now.items) c.args.targets.now)
    (sym c.in_ok-mark.ensures)
    (mark_turn _ (reached c.loop-target.marks.items c.loop-target.work.items) c.args.targets.now c.loop-target.target-index c.loop-target-test.true c.loop-target.invariant)

pub returns : goal.returns
returns c = mark_end _ (reached c.loop-target.marks.items c.loop-target.work.items) c.args.targets.now c.loop-target.target-index (omega arith) c.loop-target.invariant
