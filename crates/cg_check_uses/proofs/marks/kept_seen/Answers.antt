use Rattle.std.proofs.Common.{◌+◌, ◌<◌, length, ◌&&◌, not, ◌++◌, drop, arith, append-nil, ap, sym, ◌∙◌, Option}
use Rattle.cg_base.specs.declared.place.Place.{Place}
use Rattle.cg_check_uses.specs.declared.entry.Use.{Use}
use Rattle.cg_check_uses.specs.Marks.{raised}
use Rattle.cg_check_uses.specs.Uses.{is_seen, pairs}
use Rattle.cg_check_uses.proofs.PairSteps.{pairs_past, raised_here, raised_later}
use Rattle.cg_check_uses.proofs.marks.kept_seen.Goals as goal
use Rattle.cg_check_uses.proofs.marks.kept_seen.Goals.{then-is_unseen+in_ok-push, else-is_unseen}

pub loop-i-preserved : goal.loop-i-preserved
loop-i-preserved c =
    let xs = c.args.seen.now in
    let ys = c.args.part.now in
    let i = c.loop-i.i in
    let first : i < length xs = omega (arith, c.loop-i-test.true, c.min-i-end.ensures) in
    let second : i < length ys = omega (arith, c.loop-i-test.true, c.min-i-end.ensures) in
    elim c.if-is_unseen.branch [
      | then-is_unseen+in_ok-push w ↦
          ap (λ v. v.items ++ raised (i + 1) (pairs (λ (s : Option Place) (u : Use). is_seen s && not u.touched) (drop (i + 1) xs) (drop (i + 1) ys))) w.kept-is
          ∙ raised_here (λ (s : Option Place) (u : Use). is_seen s && not u.touched) xs ys i _ _ c.loop-i.kept.items w.push.new.self.items first second (sym c.is_unseen.ensures ∙ w.if-is_unseen.true) w.in_ok-push.ensures.items
          ∙ c.loop-i.invariant
      | else-is_unseen w ↦
          ap (λ v. v.items ++ raised (i + 1) (pairs (λ (s : Option Place) (u : Use). is_seen s && not u.touched) (drop (i + 1) xs) (drop (i + 1) ys))) w.kept-is
          ∙ raised_later (λ (s : Option Place) (u : Use). is_seen s && not u.touched) xs ys i _ _ c.loop-i.kept.items first second (sym c.is_unseen.ensures ∙ w.if-is_unseen.false)
          ∙ c.loop-i.invariant
    ]

pub returns : goal.returns
returns c =
    let past = pairs_past (λ (s : Option Place) (u : Use). is_seen s && not u.touched) c.args.seen.now c.args.part.now c.loop-i.i (λ h k. omega (arith, c.loop-i-test.false, c.min-i-end.ensures, h, k)) in
    sym (ap (λ l. c.loop-i.kept.items ++ raised c.loop-i.i l) past ∙ append-nil c.loop-i.kept.items) ∙ c.loop-i.invariant
