use Rattle.std.proofs.Common.{List, ap, arith, map, sym, true}
use Rattle.std.proofs.lemmas.Result.{err_from_is_err_and}
use Rattle.cg_cmachine_builtins.specs.Called.{built_in_of, into_place, state_of}
use Rattle.cg_cmachine_def.specs.BuiltIns.{called}
use Rattle.cg_cmachine_def.specs.Outcomes.{Outcome, bind}
use Rattle.cg_cmachine_values.specs.Values.{value_of}
use Rattle.cg_heap.specs.declared.cell.Scalar.{Scalar}
use Rattle.cg_cmachine_running.proofs.Steps as steps
use Rattle.cg_cmachine_running.proofs.Tops as tops
use Rattle.cg_cmachine_running.proofs.calls.built_in_to.Goals as goal

pub returns-in_err-m-clause-gives : goal.returns-in_err-m-clause-gives
returns-in_err-m-clause-gives g c =
    let p = err_from_is_err_and c.from_residual.result c.from_residual.ensures.1 in
    let store = g.S.Store.stored c.args.store.now in
    let m = c.args.m.now in
    let into : List Scalar → Outcome (List Scalar) =
    λ us. bind (called (built_in_of c.args.built_in) true (map value_of c.args.values.now) (state_of store m.changes) m.left) (into_place store us c.args.place) in
    let fails = steps.fails_lands (into c.as_mut_slice.result.now) m.frame.slots.items _ m.changes c.in_err-m.field-0.0 c.in_err-m.ensures.lands in
    λ r asked n. rw (p.1, p.2) (steps.went_fails r asked n _ _ _ m _ c.in_err-m.field-0.0
    (steps.fails_onward _ _ _ c.in_err-m.field-0.0 (steps.fails_bind (into m.frame.slots.items) _ _ c.in_err-m.field-0.0
    (steps.fails_same (into c.as_mut_slice.result.now) (into m.frame.slots.items) _ c.in_err-m.field-0.0 (ap into (sym c.as_mut_slice.ensures.value)) fails))))

pub returns-clause-falls : goal.returns-clause-falls
returns-clause-falls g c =
    let s = state_of (g.S.Store.stored c.args.store.now) c.args.m.now.changes in
    let under = tops.assigned_under _ (g.S.Store.stored c.args.store.now) c.as_mut_slice.result.now c.args.place _ _ (tops.called_under (built_in_of c.args.built_in) _ (map value_of c.args.values.now) s c.args.m.now.left) in
    let few = tops.fewer _ _ s.store _ _ _ under c.in_ok-m.ensures.lands in
    omega (arith, few)

pub returns-clause-low : goal.returns-clause-low
returns-clause-low g c =
    let s = state_of (g.S.Store.stored c.args.store.now) c.args.m.now.changes in
    let under = tops.assigned_under _ (g.S.Store.stored c.args.store.now) c.as_mut_slice.result.now c.args.place _ _ (tops.called_under (built_in_of c.args.built_in) _ (map value_of c.args.values.now) s c.args.m.now.left) in
    tops.lower _ _ s.store _ _ _ under c.in_ok-m.ensures.lands c.requires.low

pub returns-clause-within : goal.returns-clause-within
returns-clause-within g c =
    let s = state_of (g.S.Store.stored c.args.store.now) c.args.m.now.changes in
    let under = tops.assigned_under _ (g.S.Store.stored c.args.store.now) c.as_mut_slice.result.now c.args.place _ _ (tops.called_under (built_in_of c.args.built_in) _ (map value_of c.args.values.now) s c.args.m.now.left) in
    let few = tops.fewer _ _ s.store _ _ _ under c.in_ok-m.ensures.lands in
    omega (arith, few)
