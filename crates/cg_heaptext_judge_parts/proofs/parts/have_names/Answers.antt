use Rattle.std.proofs.Common.{sym, ◌∙◌, arith}
use Rattle.cg_heaptext_judge_parts.proofs.Lefts.{left_ends, left_fails, left_more, told}
use Rattle.cg_heaptext_judge_parts.proofs.parts.have_names.Goals as goal

pub returns-then-not-is_named : goal.returns-then-not-is_named
returns-then-not-is_named c =
    left_fails c.args.parts.now c.loop-part.part-index c.args.fields c.loop-part.left c.next.result c.next.new.self c.loop-part.invariant c.next.ensures c.part-item.result c.loop-part-test.true c.part-item.is
    (sym c.is_named.ensures ∙ c.if-not-is_named.true)

pub loop-part-preserved : goal.loop-part-preserved
loop-part-preserved c =
    left_more c.args.parts.now c.loop-part.part-index c.args.fields c.loop-part.left c.next.result c.next.new.self c.loop-part.invariant c.next.ensures c.part-item.result c.loop-part-test.true c.part-item.is
    (sym c.is_named.ensures ∙ c.if-not-is_named.false)

pub returns : goal.returns
returns c = λ fs s.
    told c.next-2.result c.is_none.result c.is_none.ensures
    ∙ left_ends c.args.parts.now c.loop-part.part-index c.args.fields c.loop-part.left c.next-2.result c.next-2.new.self c.loop-part.invariant c.next-2.ensures (omega (arith, c.loop-part-test.false)) fs s
