use Rattle.std.proofs.Common.{◌+◌, ◌∷◌, ◌++◌, drop, arith, append-nil, ap, sym, ◌∙◌}
use Rattle.cg_check_uses.specs.declared.entry.Use.{Use}
use Rattle.cg_check_uses.specs.Marks as splits
use Rattle.cg_check_uses.proofs.PairSteps.{next_one, pairs_past, pairs_rest}
use Rattle.cg_check_uses.proofs.marks.marks_of_uses.Goals as goal

pub loop-i-preserved : goal.loop-i-preserved
loop-i-preserved c =
    let us = c.args.first.now in
    let vs = c.args.second.now in
    let i = c.loop-i.i in
    let rest = splits.marks_of_uses (drop (i + 1) us) (drop (i + 1) vs) in
    let next = pairs_rest (λ (u v : Use). splits.mark_of u.touched v.touched) us vs i _ _ (omega (arith, c.loop-i-test.true, c.min-i-end.ensures)) (omega (arith, c.loop-i-test.true, c.min-i-end.ensures)) in
    next_one c.loop-i.marks c.push.new.self rest (splits.marks_of_uses (drop i us) (drop i vs)) c.mark_of.result c.in_ok-push.ensures.ok (next ∙ ap (λ m. m ∷ rest) (sym c.mark_of.ensures))
    ∙ c.loop-i.invariant

pub returns : goal.returns
returns c =
    let past = pairs_past (λ (u v : Use). splits.mark_of u.touched v.touched) c.args.first.now c.args.second.now c.loop-i.i (λ h k. omega (arith, c.loop-i-test.false, c.min-i-end.ensures, h, k)) in
    sym (ap (λ l. c.loop-i.marks ++ l) past ∙ append-nil c.loop-i.marks) ∙ c.loop-i.invariant
