use Rattle.std.proofs.Common.{rules}
use Rattle.cg_resolve_names.proofs.ItemSteps.{params_fault, params_turn, params_names}
use Rattle.cg_resolve_names.proofs.items.params_scope.Goals as goal

pub returns-in_err-enter_new-clause-says : goal.returns-in_err-enter_new-clause-says
returns-in_err-enter_new-clause-says c =
    let first = params_fault c.args.params.now c.loop-at.at-index c.at-item.result c.loop-at-test.true c.at-item.is c.loop-at.invariant.0 c.loop-at.scope c.loop-at.invariant.1 c.in_err-enter_new.field-0.0 in
    search (rules, first)

pub loop-at-preserved : goal.loop-at-preserved
loop-at-preserved c =
    let turn = params_turn c.args.params.now c.loop-at.at-index c.at-item.result c.loop-at-test.true c.at-item.is c.loop-at.invariant.0 c.loop-at.scope c.loop-at.invariant.1 in
    let names = params_names c.args.params.now c.loop-at.at-index c.at-item.result c.loop-at-test.true c.at-item.is c.loop-at.invariant.0 c.loop-at.scope c.loop-at.invariant.1 c.enter_new.new.scope in
    (search (rules, turn), search (rules, names))
