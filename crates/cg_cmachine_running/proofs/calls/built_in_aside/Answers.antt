use Rattle.std.proofs.Common.{arith, map}
use Rattle.std.proofs.lemmas.Result.{err_from_is_err_and}
use Rattle.cg_cmachine_builtins.specs.Called.{built_in_of, state_of}
use Rattle.cg_cmachine_values.specs.Values.{value_of}
use Rattle.cg_cmachine_running.proofs.Steps as steps
use Rattle.cg_cmachine_running.proofs.Tops as tops
use Rattle.cg_cmachine_running.proofs.calls.built_in_aside.Goals as goal

pub returns-in_err-m-clause-gives : goal.returns-in_err-m-clause-gives
returns-in_err-m-clause-gives g c =
    let p = err_from_is_err_and c.from_residual.result c.from_residual.ensures.1 in
    λ r asked n. rw (p.1, p.2) (steps.went_fails r asked n _ _ _ c.args.m.now _ c.in_err-m.field-0.0
    (steps.fails_onward _ _ _ c.in_err-m.field-0.0 (steps.fails_bind _ _ _ c.in_err-m.field-0.0 (steps.fails_steps _ _ c.args.m.now.changes c.in_err-m.field-0.0 c.in_err-m.ensures))))

pub returns-clause-falls : goal.returns-clause-falls
returns-clause-falls g c =
    let s = state_of (g.S.Store.stored c.args.store.now) c.args.m.now.changes in
    let few = tops.fewer _ _ s.store _ _ _ (tops.called_under (built_in_of c.args.built_in) _ (map value_of c.args.values.now) s c.args.m.now.left) c.in_ok-m.ensures.1 in
    omega (arith, few)

pub returns-clause-low : goal.returns-clause-low
returns-clause-low g c =
    let s = state_of (g.S.Store.stored c.args.store.now) c.args.m.now.changes in
    tops.lower _ _ s.store _ _ _ (tops.called_under (built_in_of c.args.built_in) _ (map value_of c.args.values.now) s c.args.m.now.left) c.in_ok-m.ensures.1 c.requires.low

pub returns-clause-within : goal.returns-clause-within
returns-clause-within g c =
    let s = state_of (g.S.Store.stored c.args.store.now) c.args.m.now.changes in
    let few = tops.fewer _ _ s.store _ _ _ (tops.called_under (built_in_of c.args.built_in) _ (map value_of c.args.values.now) s c.args.m.now.left) c.in_ok-m.ensures.1 in
    omega (arith, few)
