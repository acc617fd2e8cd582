use Rattle.cg_resolve_names.proofs.ItemSteps.{vars_turn}
use Rattle.cg_resolve_names.proofs.items.vars_scope.Goals as goal

pub loop-bound-preserved : goal.loop-bound-preserved
loop-bound-preserved c =
    vars_turn c.args.vars.now c.loop-bound.bound-index c.bound-item.result c.loop-bound-test.true c.bound-item.is c.loop-bound.scope c.enter.new.self c.in_ok-enter.field-0 (rw c.bytes.ensures at c.in_ok-enter.ensures.new)
    (rw c.bytes.ensures at c.in_ok-enter.ensures.names) c.loop-bound.invariant
