use Rattle.std.proofs.Common.{◌≡◌, ◌+◌, ◌-◌, true, false, drop, sym, ap, ◌∙◌, arith, length-drop}
use Rattle.std.proofs.lemmas.List.{drop-drop}
use Rattle.cg_lexer.specs.Gaps.{opens, closes}
use Rattle.cg_lexer.specs.Front.{closing}
use Rattle.cg_lexer.proofs.Gaps.{tail_whole, opens_more, closes_more, byte_more}
use Rattle.cg_lexer.proofs.gap.closing_len.Goals as goal

pub loop-at-preserved-then-opens : goal.loop-at-preserved-then-opens
loop-at-preserved-then-opens c =
    let bytes = c.args.bytes.now in
    let at = c.loop-at.at in
    let o : opens (drop at bytes) ≡ true = ap opens (sym (tail_whole bytes at)) ∙ sym c.opens.ensures ∙ c.if-opens.true in
    let m = opens_more (drop at bytes) c.loop-at.open o in
    record { same = omega (arith, m.0, ap (closing (c.loop-at.open + 1)) (drop-drop 2 at bytes)); within = omega (arith, m.1, length-drop at bytes); room = omega arith }

pub loop-at-preserved-then-not-closes : goal.loop-at-preserved-then-not-closes
loop-at-preserved-then-not-closes c =
    let bytes = c.args.bytes.now in
    let at = c.loop-at.at in
    let o : opens (drop at bytes) ≡ false = ap opens (sym (tail_whole bytes at)) ∙ sym c.opens.ensures ∙ c.if-opens.false in
    let s : closes (drop at bytes) ≡ false = ap closes (sym (tail_whole bytes at)) ∙ sym c.closes.ensures ∙ c.if-not-closes.true in
    let m = byte_more (drop at bytes) c.loop-at.open o s (omega (arith, length-drop at bytes)) in
    record { same = omega (arith, m, ap (closing c.loop-at.open) (drop-drop 1 at bytes)); within = omega arith; room = omega arith }

pub loop-at-preserved : goal.loop-at-preserved
loop-at-preserved c =
    let bytes = c.args.bytes.now in
    let at = c.loop-at.at in
    let o : opens (drop at bytes) ≡ false = ap opens (sym (tail_whole bytes at)) ∙ sym c.opens.ensures ∙ c.if-opens.false in
    let s : closes (drop at bytes) ≡ true = ap closes (sym (tail_whole bytes at)) ∙ sym c.closes.ensures ∙ c.if-not-closes.false in
    let m = closes_more (drop at bytes) c.loop-at.open o s c.if-open-eq0.false in
    record { same = omega (arith, m.0, ap (closing (c.loop-at.open - 1)) (drop-drop 2 at bytes)); within = omega (arith, m.1, length-drop at bytes); room = omega arith }
