use Rattle.std.proofs.Common.{List, ◌≡◌, ◌+◌, Err, arith, length, map, subst, sym}
use Rattle.std.proofs.lemmas.Result.{err_from_is_err_and}
use Rattle.cg_cmachine_builtins.specs.Called as called
use Rattle.cg_cmachine_builtins.specs.Called.{state_of}
use Rattle.cg_cmachine_resolve.specs.Resolutions.{next}
use Rattle.cg_cmachine_def.specs.Operands.{Value}
use Rattle.cg_cmachine_def.specs.Outcomes.{IsCalm, Outcome, done}
use Rattle.cg_cmachine_values.specs.declared.value.CValue.{CValue}
use Rattle.cg_cmachine_values.specs.Values.{value_of}
use Rattle.cg_cmachine_running.specs.Machine.{Follows, abstract_call, block, function_at, landed}
use Rattle.cg_cmachine.proofs.Asking as asking
use Rattle.cg_cmachine_running.proofs.Entries.{value_whole}
use Rattle.cg_cmachine_running.proofs.Steps as steps
use Rattle.cg_cmachine_running.proofs.Tops.{under_done}
use Rattle.cg_cmachine.proofs.abstracts.ask.Goals as goal
use Rattle.cg_heap.proofs.Tables.{rises_little}

pub returns-in_err-value-clause-gives : goal.returns-in_err-value-clause-gives
returns-in_err-value-clause-gives g c =
    let r = c.args.run.now.program.now in
    let n = c.args.run.now.budget in
    let asked = (g.X.ExternHeap.on_heaps c.args.table.now).asked in
    let store = g.S.Store.stored c.args.store.now in
    let m = c.args.m.now in
    let call : List CValue → Outcome Value = λ vs. abstract_call r asked n (function_at r c.args.function) c.args.name.now (map value_of vs) (state_of store m.changes) m.left in
    let calm : IsCalm (call c.args.values.items) = asking.calm_call r asked n m.stack.items m.frame m.frame.at.function (call c.args.values.items) (block r asked n (next m.frame.at)) c.requires.calm in
    let p = err_from_is_err_and c.from_residual.result c.from_residual.ensures.1 in
    let ends = subst (λ (vs : List CValue). IsCalm (call vs) → called.Ends value_of (call vs) (g.S.Store.stored c.call_abstract.new.store) c.call_abstract.new.changes (Err c.in_err-value.field-0.0)) c.as_slice.ensures.value c.in_err-value.ensures calm in
    rw (p.1, p.2) (steps.went_fails r asked n _ _ _ m _ c.in_err-value.field-0.0
    (steps.fails_onward _ _ _ c.in_err-value.field-0.0 (steps.fails_bind _ _ _ c.in_err-value.field-0.0
    (asking.fails_ends value_of (call c.args.values.items) _ c.call_abstract.new.changes c.in_err-value.field-0.0 ends))))

pub land-requires-clause-low : goal.land-requires-clause-low
land-requires-clause-low g c =
    let r = c.args.run.now.program.now in
    let n = c.args.run.now.budget in
    let asked = (g.X.ExternHeap.on_heaps c.args.table.now).asked in
    let store = g.S.Store.stored c.args.store.now in
    let m = c.args.m.now in
    let call : List CValue → Outcome Value = λ vs. abstract_call r asked n (function_at r c.args.function) c.args.name.now (map value_of vs) (state_of store m.changes) m.left in
    let calm : IsCalm (call c.args.values.items) = asking.calm_call r asked n m.stack.items m.frame m.frame.at.function (call c.args.values.items) (block r asked n (next m.frame.at)) c.requires.calm in
    let gave : call c.args.values.items ≡ done (value_of c.in_ok-value.value) (state_of (g.S.Store.stored c.call_abstract.new.store) c.call_abstract.new.changes) c.in_ok-value.left =
    subst (λ (vs : List CValue). IsCalm (call vs) → call vs ≡ done (value_of c.in_ok-value.value) (state_of (g.S.Store.stored c.call_abstract.new.store) c.call_abstract.new.changes) c.in_ok-value.left) c.as_slice.ensures.value c.in_ok-value.ensures calm in
    let under = asking.asked_under r asked n c.args.function c.args.name.now (map value_of c.args.values.items) (state_of store m.changes) m.left
    (λ us a. rises_little (g.met.X.ExternHeap.lawful_on_heaps c.args.table.now) c.args.name.now us store a) in
    asking.lower_by (call c.args.values.items) (value_of c.in_ok-value.value) store (state_of (g.S.Store.stored c.call_abstract.new.store) c.call_abstract.new.changes) m.left c.in_ok-value.left under gave c.requires.low

pub returns-clause-gives : goal.returns-clause-gives
returns-clause-gives g c =
    let r = c.args.run.now.program.now in
    let n = c.args.run.now.budget in
    let asked = (g.X.ExternHeap.on_heaps c.args.table.now).asked in
    let store = g.S.Store.stored c.args.store.now in
    let m = c.args.m.now in
    let call : List CValue → Outcome Value = λ vs. abstract_call r asked n (function_at r c.args.function) c.args.name.now (map value_of vs) (state_of store m.changes) m.left in
    let calm : IsCalm (call c.args.values.items) = asking.calm_call r asked n m.stack.items m.frame m.frame.at.function (call c.args.values.items) (block r asked n (next m.frame.at)) c.requires.calm in
    let gave : call c.args.values.items ≡ done (value_of c.in_ok-value.value) (state_of (g.S.Store.stored c.call_abstract.new.store) c.call_abstract.new.changes) c.in_ok-value.left =
    subst (λ (vs : List CValue). IsCalm (call vs) → call vs ≡ done (value_of c.in_ok-value.value) (state_of (g.S.Store.stored c.call_abstract.new.store) c.call_abstract.new.changes) c.in_ok-value.left) c.as_slice.ensures.value c.in_ok-value.ensures calm in
    subst (λ (o : Outcome Value). Follows r asked n m (landed r asked n m.frame o) c.land.new.m (g.S.Store.stored c.land.new.store) c.land.result) (sym gave) (c.land.ensures.gives asked (value_whole c.in_ok-value.value))

pub returns-clause-falls : goal.returns-clause-falls
returns-clause-falls g c =
    let r = c.args.run.now.program.now in
    let n = c.args.run.now.budget in
    let asked = (g.X.ExternHeap.on_heaps c.args.table.now).asked in
    let store = g.S.Store.stored c.args.store.now in
    let m = c.args.m.now in
    let call : List CValue → Outcome Value = λ vs. abstract_call r asked n (function_at r c.args.function) c.args.name.now (map value_of vs) (state_of store m.changes) m.left in
    let calm : IsCalm (call c.args.values.items) = asking.calm_call r asked n m.stack.items m.frame m.frame.at.function (call c.args.values.items) (block r asked n (next m.frame.at)) c.requires.calm in
    let gave : call c.args.values.items ≡ done (value_of c.in_ok-value.value) (state_of (g.S.Store.stored c.call_abstract.new.store) c.call_abstract.new.changes) c.in_ok-value.left =
    subst (λ (vs : List CValue). IsCalm (call vs) → call vs ≡ done (value_of c.in_ok-value.value) (state_of (g.S.Store.stored c.call_abstract.new.store) c.call_abstract.new.changes) c.in_ok-value.left) c.as_slice.ensures.value c.in_ok-value.ensures calm in
    let under = asking.asked_under r asked n c.args.function c.args.name.now (map value_of c.args.values.items) (state_of store m.changes) m.left
    (λ us a. rises_little (g.met.X.ExternHeap.lawful_on_heaps c.args.table.now) c.args.name.now us store a) in
    let few = (under_done (store.top + 65536) m.left (call c.args.values.items) (value_of c.in_ok-value.value) (state_of (g.S.Store.stored c.call_abstract.new.store) c.call_abstract.new.changes) c.in_ok-value.left under gave).1 in
    asking.falls_less c.land.result c.land.new.m m.left c.in_ok-value.left (length m.stack.items) few c.land.ensures.falls

pub returns-clause-within : goal.returns-clause-within
returns-clause-within g c =
    let r = c.args.run.now.program.now in
    let n = c.args.run.now.budget in
    let asked = (g.X.ExternHeap.on_heaps c.args.table.now).asked in
    let store = g.S.Store.stored c.args.store.now in
    let m = c.args.m.now in
    let call : List CValue → Outcome Value = λ vs. abstract_call r asked n (function_at r c.args.function) c.args.name.now (map value_of vs) (state_of store m.changes) m.left in
    let calm : IsCalm (call c.args.values.items) = asking.calm_call r asked n m.stack.items m.frame m.frame.at.function (call c.args.values.items) (block r asked n (next m.frame.at)) c.requires.calm in
    let gave : call c.args.values.items ≡ done (value_of c.in_ok-value.value) (state_of (g.S.Store.stored c.call_abstract.new.store) c.call_abstract.new.changes) c.in_ok-value.left =
    subst (λ (vs : List CValue). IsCalm (call vs) → call vs ≡ done (value_of c.in_ok-value.value) (state_of (g.S.Store.stored c.call_abstract.new.store) c.call_abstract.new.changes) c.in_ok-value.left) c.as_slice.ensures.value c.in_ok-value.ensures calm in
    let under = asking.asked_under r asked n c.args.function c.args.name.now (map value_of c.args.values.items) (state_of store m.changes) m.left
    (λ us a. rises_little (g.met.X.ExternHeap.lawful_on_heaps c.args.table.now) c.args.name.now us store a) in
    let few = (under_done (store.top + 65536) m.left (call c.args.values.items) (value_of c.in_ok-value.value) (state_of (g.S.Store.stored c.call_abstract.new.store) c.call_abstract.new.changes) c.in_ok-value.left under gave).1 in
    let same = c.land.ensures.within in
    omega (arith, few, same)
