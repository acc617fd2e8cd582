use Rattle.std.proofs.Common.{◌≡◌, false, drop, codes, nat_eq, sym, ap, ◌∙◌, arith}
use Rattle.std.specs.List.{starts_with}
use Rattle.cg_cread_lexer.proofs.Gaps.{tail_whole, inside_more}
use Rattle.cg_cread_lexer.proofs.gap.inside_len.Goals as goal

pub loop-i-preserved : goal.loop-i-preserved
loop-i-preserved c =
    let bytes = c.args.bytes.now in
    let i = c.loop-i.i in
    let no : starts_with nat_eq (drop i bytes) (codes "*/") ≡ false = ap (λ x. starts_with nat_eq x (codes "*/")) (sym (tail_whole bytes i)) ∙ sym c.starts_with.ensures.value ∙ c.if-starts_with.false in
    omega (arith, c.loop-i.invariant, inside_more bytes i c.loop-i-test.true no)
