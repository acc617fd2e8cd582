use Rattle.std.proofs.Common.{◌+◌, ◌∷◌, ◌++◌, drop, arith, append-nil, ap, sym, ◌∙◌}
use Rattle.cg_check_uses.specs.Uses as tables
use Rattle.cg_check_uses.proofs.PairSteps.{next_one, pairs_past, pairs_rest}
use Rattle.cg_check_uses.proofs.uses.join.Goals as goal

pub loop-i-preserved : goal.loop-i-preserved
loop-i-preserved c =
    let xs = c.args.first.now in
    let ys = c.args.second.now in
    let i = c.loop-i.i in
    let rest = tables.join (drop (i + 1) xs) (drop (i + 1) ys) in
    let next = pairs_rest (tables.both) xs ys i _ _ (omega (arith, c.loop-i-test.true, c.min-i-end.ensures)) (omega (arith, c.loop-i-test.true, c.min-i-end.ensures)) in
    next_one c.loop-i.uses.items c.push.new.self.items rest (tables.join (drop i xs) (drop i ys)) c.both.result c.in_ok-push.ensures.items (next ∙ ap (λ x. x ∷ rest) (sym c.both.ensures))
    ∙ c.loop-i.invariant

pub returns : goal.returns
returns c =
    let past = pairs_past (tables.both) c.args.first.now c.args.second.now c.loop-i.i (λ h k. omega (arith, c.loop-i-test.false, c.min-i-end.ensures, h, k)) in
    sym (ap (λ l. c.loop-i.uses.items ++ l) past ∙ append-nil c.loop-i.uses.items) ∙ c.loop-i.invariant
