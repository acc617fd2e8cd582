use Rattle.std.proofs.Common.{List, Err, ap, subst, ◌∙◌, sym}
use Rattle.std.proofs.lemmas.Result.{err_from_is_err_and}
use Rattle.cg_cmachine_layout.specs.Kinds.{layout_of}
use Rattle.cg_cmachine_values.specs.Values.{Tries, value_of}
use Rattle.cg_heap.specs.declared.cell.Scalar.{Scalar}
use Rattle.cg_cmachine.specs.Abstracts.{read_whole}
use Rattle.cg_cmachine.proofs.Asking as asking
use Rattle.cg_cmachine.proofs.abstracts.call_for_value.Goals as goal

pub returns-in_err-result : goal.returns-in_err-result
returns-in_err-result g c =
    let store = g.S.Store.stored c.args.store.now in
    let store' = g.S.Store.stored c.call_table.new.store in
    let p = err_from_is_err_and c.from_residual.result c.from_residual.ensures.1 in
    λ a i. rw (p.1, p.2) (asking.value_fails (layout_of c.args.kind) store store' c.args.changes.now c.call_table.new.changes c.args.left a value_of c.in_err-result.field-0.0 (c.in_err-result.ensures a i))

pub returns-in_err-value : goal.returns-in_err-value
returns-in_err-value g c =
    let store = g.S.Store.stored c.args.store.now in
    let store' = g.S.Store.stored c.call_table.new.store in
    let p = err_from_is_err_and c.from_residual-in_err-value.result c.from_residual-in_err-value.ensures.1 in
    λ a i. rw (p.1, p.2) (asking.value_unread (layout_of c.args.kind) store store' c.args.changes.now c.call_table.new.changes c.args.left a (c.in_ok-result.result, c.in_ok-result.left) (c.in_ok-result.ensures a i) value_of value_of c.in_err-value.field-0.0
    (subst (λ (us : List Scalar). Tries value_of (read_whole (layout_of c.args.kind) us) (Err c.in_err-value.field-0.0)) c.as_slice.ensures c.in_err-value.ensures))

pub returns : goal.returns
returns g c =
    let store = g.S.Store.stored c.args.store.now in
    let store' = g.S.Store.stored c.call_table.new.store in
    λ a i. asking.value_read (layout_of c.args.kind) store store' c.args.changes.now c.call_table.new.changes c.args.left a (c.in_ok-result.result, c.in_ok-result.left) (c.in_ok-result.ensures a i) (value_of c.in_ok-value.value)
    (ap (read_whole (layout_of c.args.kind)) (sym c.as_slice.ensures) ∙ c.in_ok-value.ensures)
