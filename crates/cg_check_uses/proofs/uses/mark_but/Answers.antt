use Rattle.std.proofs.Common.{Bool, Option, ◌||◌, ◌&&◌, not, ◌+◌, ◌∷◌, ◌++◌, drop, arith, append-nil, ap, sym, ◌∙◌}
use Rattle.cg_base.specs.declared.place.Place.{Place}
use Rattle.cg_check_uses.specs.declared.entry.Use.{Use}
use Rattle.cg_check_uses.specs.Uses as tables
use Rattle.cg_check_uses.proofs.PairSteps.{next_one, triples_past, triples_rest}
use Rattle.cg_check_uses.proofs.uses.mark_but.Goals as goal

pub loop-i-preserved : goal.loop-i-preserved
loop-i-preserved c =
    let xs = c.args.seen.now in
    let ys = c.args.before.now in
    let zs = c.args.uses.now in
    let i = c.loop-i.i in
    let rest = tables.mark_but (drop (i + 1) xs) (drop (i + 1) ys) (drop (i + 1) zs) in
    let next =
    triples_rest (λ (s : Option Place) (b : Bool) (u : Use). b || (not (tables.is_seen s) && u.touched)) xs ys zs i _ _ _ (omega (arith, c.loop-i-test.true, c.min-i-end.ensures, c.min.ensures)) (omega (arith, c.loop-i-test.true, c.min-i-end.ensures, c.min.ensures))
    (omega (arith, c.loop-i-test.true, c.min-i-end.ensures)) in
    next_one c.loop-i.flags.items c.push.new.self.items rest (tables.mark_but (drop i xs) (drop i ys) (drop i zs)) c.touched_but.result c.in_ok-push.ensures.items (next ∙ ap (λ x. x ∷ rest) (sym c.touched_but.ensures))
    ∙ c.loop-i.invariant

pub returns : goal.returns
returns c =
    let past = triples_past (λ (s : Option Place) (b : Bool) (u : Use). b || (not (tables.is_seen s) && u.touched)) c.args.seen.now c.args.before.now c.args.uses.now c.loop-i.i (λ h k l. omega (arith, c.loop-i-test.false, c.min-i-end.ensures, c.min.ensures, h, k, l)) in
    sym (ap (λ l. c.loop-i.flags.items ++ l) past ∙ append-nil c.loop-i.flags.items) ∙ c.loop-i.invariant
