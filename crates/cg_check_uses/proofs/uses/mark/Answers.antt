use Rattle.std.proofs.Common.{Bool, ◌||◌, ◌+◌, ◌∷◌, ◌++◌, drop, arith, append-nil, ap, sym, ◌∙◌}
use Rattle.cg_check_uses.specs.declared.entry.Use.{Use}
use Rattle.cg_check_uses.specs.Uses as tables
use Rattle.cg_check_uses.proofs.PairSteps.{next_one, pairs_past, pairs_rest}
use Rattle.cg_check_uses.proofs.uses.mark.Goals as goal

pub loop-i-preserved : goal.loop-i-preserved
loop-i-preserved c =
    let xs = c.args.before.now in
    let ys = c.args.uses.now in
    let i = c.loop-i.i in
    let rest = tables.mark (drop (i + 1) xs) (drop (i + 1) ys) in
    let next = pairs_rest (λ (b : Bool) (u : Use). b || u.touched) xs ys i _ _ (omega (arith, c.loop-i-test.true, c.min-i-end.ensures)) (omega (arith, c.loop-i-test.true, c.min-i-end.ensures)) in
    next_one c.loop-i.flags.items c.push.new.self.items rest (tables.mark (drop i xs) (drop i ys)) c.touched.result c.in_ok-push.ensures.items (next ∙ ap (λ x. x ∷ rest) (sym c.touched.ensures))
    ∙ c.loop-i.invariant

pub returns : goal.returns
returns c =
    let past = pairs_past (λ (b : Bool) (u : Use). b || u.touched) c.args.before.now c.args.uses.now c.loop-i.i (λ h k. omega (arith, c.loop-i-test.false, c.min-i-end.ensures, h, k)) in
    sym (ap (λ l. c.loop-i.flags.items ++ l) past ∙ append-nil c.loop-i.flags.items) ∙ c.loop-i.invariant
