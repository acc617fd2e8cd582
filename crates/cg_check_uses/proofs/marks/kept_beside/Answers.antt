use Rattle.std.proofs.Common.{◌+◌, ◌<◌, length, ◌&&◌, not, ◌++◌, drop, arith, append-nil, ap, sym, ◌∙◌}
use Rattle.cg_check_uses.specs.declared.entry.Use.{Use}
use Rattle.cg_check_uses.specs.Marks.{raised}
use Rattle.cg_check_uses.specs.Uses.{pairs}
use Rattle.cg_check_uses.proofs.PairSteps.{pairs_past, raised_here, raised_later}
use Rattle.cg_check_uses.proofs.marks.kept_beside.Goals as goal
use Rattle.cg_check_uses.proofs.marks.kept_beside.Goals.{then-is_beside+in_ok-push, else-is_beside}

pub loop-i-preserved : goal.loop-i-preserved
loop-i-preserved c =
    let xs = c.args.branch.now in
    let ys = c.args.other.now in
    let i = c.loop-i.i in
    let first : i < length xs = omega (arith, c.loop-i-test.true, c.min-i-end.ensures) in
    let second : i < length ys = omega (arith, c.loop-i-test.true, c.min-i-end.ensures) in
    elim c.if-is_beside.branch [
      | then-is_beside+in_ok-push w ↦
          ap (λ v. v.items ++ raised (i + 1) (pairs (λ (u v : Use). not u.touched && v.touched) (drop (i + 1) xs) (drop (i + 1) ys))) w.kept-is
          ∙ raised_here (λ (u v : Use). not u.touched && v.touched) xs ys i _ _ c.loop-i.kept.items w.push.new.self.items first second (sym c.is_beside.ensures ∙ w.if-is_beside.true) w.in_ok-push.ensures.items
          ∙ c.loop-i.invariant
      | else-is_beside w ↦
          ap (λ v. v.items ++ raised (i + 1) (pairs (λ (u v : Use). not u.touched && v.touched) (drop (i + 1) xs) (drop (i + 1) ys))) w.kept-is
          ∙ raised_later (λ (u v : Use). not u.touched && v.touched) xs ys i _ _ c.loop-i.kept.items first second (sym c.is_beside.ensures ∙ w.if-is_beside.false)
          ∙ c.loop-i.invariant
    ]

pub returns : goal.returns
returns c =
    let past = pairs_past (λ (u v : Use). not u.touched && v.touched) c.args.branch.now c.args.other.now c.loop-i.i (λ h k. omega (arith, c.loop-i-test.false, c.min-i-end.ensures, h, k)) in
    sym (ap (λ l. c.loop-i.kept.items ++ raised c.loop-i.i l) past ∙ append-nil c.loop-i.kept.items) ∙ c.loop-i.invariant
