use Rattle.std.proofs.Common.{rules, map, length, arith, ap, sym, ◌∙◌}
use Rattle.std.proofs.lemmas.List.{length-map}
use Rattle.cg_core.specs.declared.derivation.Deriv.{the_lemmas}
use Rattle.cg_core.specs.Derivations.{derivation_of}
use Rattle.cg_check_uses.proofs.SettleSteps.{settled_more, settled_node, all_done, put_back, first_same}
use Rattle.cg_check_uses.specs.Marks.{settle}
use Rattle.cg_check_uses.specs.Parted.{settled_from}
use Rattle.cg_check_uses.proofs.kept.+settle.Goals as goal

pub settle_behind-loop-i-init : goal.settle_behind-loop-i-init
settle_behind-loop-i-init t c = (search rules, first_same _ _ _)

pub settle_behind-loop-i-preserved : goal.settle_behind-loop-i-preserved
settle_behind-loop-i-preserved t c =
    let kept = c.args.kept.now.items in
    let x = c.index-parts-i.result in (
      search rules,
      settled_more kept c.args.first c.as_mut_slice-parts.result.now c.loop-i.parts c.loop-i.i x c.settle_in.new.tree c.loop-i.invariant.1 c.loop-i.auto.i c.loop-i-test.true
          (c.index-parts-i.is ∙ c.loop-i.invariant.0.1 c.loop-i.i x (omega arith)) (c.settle_in.ensures ∙ ap (λ x. settle kept (derivation_of x)) (sym c.index-parts-i.is)),
    )

pub settle_behind-returns : goal.settle_behind-returns
settle_behind-returns t c =
    let value = c.as_mut_slice-parts.ensures.value in
    let parts = c.as_mut_slice-parts.result.now in
    ap (map derivation_of) (put_back c.args.parts.now c.loop-i.parts (c.loop-i.invariant.0.0 ∙ ap length value))
    ∙ c.loop-i.invariant.1
    ∙ all_done c.args.kept.now.items c.args.first (map derivation_of parts) c.loop-i.i (omega (arith, length-map parts derivation_of, c.loop-i-test.false))
    ∙ ap (λ ps. settled_from c.args.kept.now.items c.args.first (map derivation_of ps)) value

pub settle_in-returns : goal.settle_in-returns
settle_in-returns t c =
    let made =
    settled_node c.args.kept.now.items c.args.tree.now c.keep_in_all.new.strings c.settle_behind.new.parts c.len-first.result c.keep_in_all.ensures
    (simp the_lemmas at c.len-first.ensures) (simp the_lemmas at c.settle_behind.ensures) in
    grind (arith, the_lemmas, made)
