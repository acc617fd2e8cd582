use Rattle.std.proofs.Common.{◌+◌, ◌∷◌, ◌++◌, drop, arith, append-nil, ap, sym, ◌∙◌}
use Rattle.cg_check_uses.specs.Uses as tables
use Rattle.cg_check_uses.proofs.PairSteps.{next_one, triples_past, triples_rest}
use Rattle.cg_check_uses.proofs.uses.join_seen.Goals as goal

pub loop-i-preserved : goal.loop-i-preserved
loop-i-preserved c =
    let xs = c.args.seen.now in
    let ys = c.args.first.now in
    let zs = c.args.second.now in
    let i = c.loop-i.i in
    let rest = tables.join_seen (drop (i + 1) xs) (drop (i + 1) ys) (drop (i + 1) zs) in
    let next =
    triples_rest (tables.both_seen) xs ys zs i _ _ _ (omega (arith, c.loop-i-test.true, c.min-i-end.ensures, c.min.ensures)) (omega (arith, c.loop-i-test.true, c.min-i-end.ensures, c.min.ensures))
    (omega (arith, c.loop-i-test.true, c.min-i-end.ensures)) in
    next_one c.loop-i.uses.items c.push.new.self.items rest (tables.join_seen (drop i xs) (drop i ys) (drop i zs)) c.both_seen.result c.in_ok-push.ensures.items (next ∙ ap (λ x. x ∷ rest) (sym c.both_seen.ensures))
    ∙ c.loop-i.invariant

pub returns : goal.returns
returns c =
    let past = triples_past (tables.both_seen) c.args.seen.now c.args.first.now c.args.second.now c.loop-i.i (λ h k l. omega (arith, c.loop-i-test.false, c.min-i-end.ensures, c.min.ensures, h, k, l)) in
    sym (ap (λ l. c.loop-i.uses.items ++ l) past ∙ append-nil c.loop-i.uses.items) ∙ c.loop-i.invariant
