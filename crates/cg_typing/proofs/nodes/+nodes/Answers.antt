use Rattle.std.proofs.Common.{arith}
use Rattle.cg_typing.proofs.NodeSteps.{first_field, first_term, no_field, no_term, walked_all, walked_on}
use Rattle.cg_typing.proofs.nodes.+nodes.Goals as goal

pub push_all-loop-term-preserved : goal.push_all-loop-term-preserved
push_all-loop-term-preserved t c =
    walked_on _ _ _ _ _ _ c.in_ok-push_nodes.ensures
    (first_term c.args.terms.now c.loop-term.term-index c.term-item.result c.loop-term-test.true c.term-item.is) c.loop-term.invariant

pub push_all-returns : goal.push_all-returns
push_all-returns t c = walked_all _ _ _ (no_term c.args.terms.now c.loop-term.term-index (omega (arith, c.loop-term-test.false))) c.loop-term.invariant

pub push_fields-loop-field-preserved : goal.push_fields-loop-field-preserved
push_fields-loop-field-preserved t c =
    walked_on _ _ _ _ _ _ c.in_ok-push_nodes.ensures
    (first_field c.args.fields.now c.loop-field.field-index c.field-item.result c.loop-field-test.true c.field-item.is) c.loop-field.invariant

pub push_fields-returns : goal.push_fields-returns
push_fields-returns t c = walked_all _ _ _ (no_field c.args.fields.now c.loop-field.field-index (omega (arith, c.loop-field-test.false))) c.loop-field.invariant
