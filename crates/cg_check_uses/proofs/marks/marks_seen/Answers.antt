use Rattle.std.proofs.Common.{◌+◌, ◌∷◌, ◌++◌, drop, arith, append-nil, ap, sym, ◌∙◌}
use Rattle.cg_check_uses.specs.Marks as splits
use Rattle.cg_check_uses.proofs.PairSteps.{next_one, triples_past, triples_rest}
use Rattle.cg_check_uses.proofs.marks.marks_seen.Goals as goal

pub loop-i-preserved : goal.loop-i-preserved
loop-i-preserved c =
    let seen = c.args.seen.now in
    let us = c.args.first.now in
    let vs = c.args.second.now in
    let i = c.loop-i.i in
    let rest = splits.marks_seen (drop (i + 1) seen) (drop (i + 1) us) (drop (i + 1) vs) in
    let next =
    triples_rest splits.mark_seen seen us vs i _ _ _ (omega (arith, c.loop-i-test.true, c.min-i-end.ensures, c.min.ensures)) (omega (arith, c.loop-i-test.true, c.min-i-end.ensures, c.min.ensures))
    (omega (arith, c.loop-i-test.true, c.min-i-end.ensures)) in
    next_one c.loop-i.marks c.push.new.self rest (splits.marks_seen (drop i seen) (drop i us) (drop i vs)) c.mark_seen.result c.in_ok-push.ensures.ok (next ∙ ap (λ m. m ∷ rest) (sym c.mark_seen.ensures))
    ∙ c.loop-i.invariant

pub returns : goal.returns
returns c =
    let past =
    triples_past splits.mark_seen c.args.seen.now c.args.first.now c.args.second.now c.loop-i.i (λ h k l. omega (arith, c.loop-i-test.false, c.min-i-end.ensures, c.min.ensures, h, k, l)) in
    sym (ap (λ l. c.loop-i.marks ++ l) past ∙ append-nil c.loop-i.marks) ∙ c.loop-i.invariant
