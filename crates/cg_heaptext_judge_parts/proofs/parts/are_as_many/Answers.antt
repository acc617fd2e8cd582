use Rattle.std.proofs.Common.{sym, ◌∙◌, arith}
use Rattle.cg_heaptext_judge_parts.proofs.Lefts.{told, values_end, values_fail, values_more}
use Rattle.cg_heaptext_judge_parts.proofs.parts.are_as_many.Goals as goal

pub returns-then-is_none : goal.returns-then-is_none
returns-then-is_none c =
    values_fail c.args.parts.now c.loop-part.part-index c.args.values c.loop-part.left c.next.result c.next.new.self c.loop-part.invariant c.next.ensures c.part-item.result c.loop-part-test.true c.part-item.is
    (sym (told c.next.result c.is_none.result c.is_none.ensures) ∙ c.if-is_none.true)

pub loop-part-preserved : goal.loop-part-preserved
loop-part-preserved c =
    values_more c.args.parts.now c.loop-part.part-index c.args.values c.loop-part.left c.next.result c.next.new.self c.loop-part.invariant c.next.ensures c.part-item.result c.loop-part-test.true c.part-item.is
    (sym (told c.next.result c.is_none.result c.is_none.ensures) ∙ c.if-is_none.false)

pub returns : goal.returns
returns c = λ vs s.
    told c.next-2.result c.is_none-2.result c.is_none-2.ensures
    ∙ values_end c.args.parts.now c.loop-part.part-index c.args.values c.loop-part.left c.next-2.result c.next-2.new.self c.loop-part.invariant c.next-2.ensures (omega (arith, c.loop-part-test.false)) vs s
