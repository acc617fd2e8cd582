use Rattle.std.proofs.Common.{sym, ap, ◌∙◌, arith}
use Rattle.cg_core.specs.Terms.{arg_of}
use Rattle.cg_mono_closed.specs.Closed.{closed_arg}
use Rattle.cg_mono_closed.proofs.Loops.{item_decided, item_left, items_end, seen_by}
use Rattle.cg_mono_closed.proofs.closed.are_closed.Goals as goal

pub returns-then-not-is_closed_type : goal.returns-then-not-is_closed_type
returns-then-not-is_closed_type c =
    item_decided closed_arg arg_of c.as_slice-arg-items.result.now c.loop-arg.arg-index c.arg-item.result c.loop-arg-test.true c.arg-item.is (sym c.is_closed_type.ensures ∙ c.if-not-is_closed_type.true) c.loop-arg.invariant
    ∙ ap (seen_by closed_arg arg_of) c.as_slice-arg-items.ensures

pub loop-arg-preserved : goal.loop-arg-preserved
loop-arg-preserved c =
    item_left closed_arg arg_of c.as_slice-arg-items.result.now c.loop-arg.arg-index c.arg-item.result c.loop-arg-test.true c.arg-item.is (sym c.is_closed_type.ensures ∙ c.if-not-is_closed_type.false) c.loop-arg.invariant

pub returns : goal.returns
returns c =
    items_end closed_arg arg_of c.as_slice-arg-items.result.now c.loop-arg.arg-index (omega (arith, c.loop-arg-test.false)) c.loop-arg.invariant ∙ ap (seen_by closed_arg arg_of) c.as_slice-arg-items.ensures
