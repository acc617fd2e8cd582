use Rattle.std.proofs.Common.{List, map}
use Rattle.std.proofs.lemmas.Result.{err_from_is_err_and}
use Rattle.cg_cmachine_values.specs.Values.{value_of}
use Rattle.cg_heap.specs.declared.cell.Scalar.{Scalar}
use Rattle.cg_cmachine.proofs.Asking as asking
use Rattle.cg_cmachine.proofs.abstracts.call_abstract.Goals as goal

pub returns-in_err-arg : goal.returns-in_err-arg
returns-in_err-arg g c =
    let r = c.args.run.now.program.now in
    let n = c.args.run.now.budget in
    let asked = (g.X.ExternHeap.on_heaps c.args.table.now).asked in
    let store = g.S.Store.stored c.args.store.now in
    let head = c.in-Some.head in
    let p = err_from_is_err_and c.from_residual.result c.from_residual.ensures.1 in
    λ calm. rw (p.1, p.2) (asking.ends_refused r asked n c.args.function c.args.name.now (map value_of c.args.values.now) store c.args.changes.now c.args.left head.kind head.params.now head.slots head.has_body c.in-Some.ensures.head calm (λ (us : List Scalar). us) value_of c.in_err-arg.field-0.0 c.in_err-arg.ensures)

pub returns : goal.returns
returns g c =
    let r = c.args.run.now.program.now in
    let n = c.args.run.now.budget in
    let asked = (g.X.ExternHeap.on_heaps c.args.table.now).asked in
    let store = g.S.Store.stored c.args.store.now in
    let head = c.in-Some.head in
    λ calm. asking.ends_called r asked n c.args.function c.args.name.now (map value_of c.args.values.now) store c.args.changes.now c.args.left head.kind head.params.now head.slots head.has_body c.in-Some.ensures.head calm c.in_ok-arg.arg (g.S.Store.stored c.call_for_value.new.store) c.call_for_value.new.changes c.in_ok-arg.ensures value_of c.call_for_value.result (λ a i. c.call_for_value.ensures a i)
