use Rattle.std.proofs.Common.{arith, sym, ◌∙◌}
use Rattle.cg_check_pieces.specs.View.{bounds_of}
use Rattle.cg_certcheck_context.proofs.TestSteps.{but_both, but_first, but_past}
use Rattle.cg_certcheck_context.proofs.tests.drops_but.Goals as goal

pub returns-then-drops_all : goal.returns-then-drops_all
returns-then-drops_all c =
    but_both (bounds_of c.args.source.now.vars.now) c.args.context.now c.args.used c.drops_all-2.result c.drops_all-then-drops_all.result
    (omega arith) c.drops_all-2.ensures c.if-drops_all.true c.drops_all-then-drops_all.ensures

pub returns-else-drops_all : goal.returns-else-drops_all
returns-else-drops_all c =
    but_first (bounds_of c.args.source.now.vars.now) c.args.context.now c.args.used c.drops_all-2.result (omega arith) c.drops_all-2.ensures c.if-drops_all.false

pub returns-then-used-context : goal.returns-then-used-context
returns-then-used-context c = c.drops_all.ensures ∙ sym (but_past (bounds_of c.args.source.now.vars.now) c.args.context.now c.args.used (omega arith))
