use Rattle.std.proofs.Common.{◌∙◌, ◌-◌, ◌≤◌, arith, sym}
use Rattle.std.proofs.lemmas.Result.{err_from_is_err_and}
use Rattle.cg_cmachine.proofs.Answering as answering
use Rattle.cg_cmachine.proofs.answer.run_table.Goals as goal

pub returns-in_err-value : goal.returns-in_err-value
returns-in_err-value g c =
    let r = c.args.run.now.program.now in
    let n = c.args.run.now.budget in
    let asked = (g.X.ExternHeap.on_heaps c.args.table.now).asked in
    let store = g.S.Store.stored c.args.store.now in
    let head = c.args.head in
    let before = c.args.changes.now in
    let after = c.call_table.new.changes in
    let p = err_from_is_err_and c.from_residual.result c.from_residual.ensures.1 in
    rw (p.1, p.2) (answering.abstract_fails r asked n c.args.function c.args.arg.now store head.kind head.params.now head.slots head.has_body c.args.name.now c.requires.head c.requires.body c.requires.name c.requires.calm
    c.requires.fits (g.S.Store.stored c.call_table.new.store) before after c.in_err-value.field-0.0 (λ a i. c.in_err-value.ensures a i))

pub returns-then-len-size : goal.returns-then-len-size
returns-then-len-size g c =
    let r = c.args.run.now.program.now in
    let n = c.args.run.now.budget in
    let asked = (g.X.ExternHeap.on_heaps c.args.table.now).asked in
    let store = g.S.Store.stored c.args.store.now in
    let head = c.args.head in
    let before = c.args.changes.now in
    let after = c.call_table.new.changes in
    answering.abstract_sized r asked n c.args.function c.args.arg.now store head.kind head.params.now head.slots head.has_body c.args.name.now c.requires.head c.requires.body c.requires.name c.requires.calm
    c.requires.fits (g.S.Store.stored c.call_table.new.store) before after (c.in_ok-value.value, c.in_ok-value.left) (λ a i. c.in_ok-value.ensures a i) (λ y. c.if-len-size.true (c.len.ensures ∙ y ∙ sym c.size.ensures))

pub returns : goal.returns
returns g c =
    let r = c.args.run.now.program.now in
    let n = c.args.run.now.budget in
    let asked = (g.X.ExternHeap.on_heaps c.args.table.now).asked in
    let store = g.S.Store.stored c.args.store.now in
    let head = c.args.head in
    let before = c.args.changes.now in
    let after = c.call_table.new.changes in
    let store' = g.S.Store.stored c.call_table.new.store in
    let left = c.in_ok-value.left in
    let gives =
    answering.abstract_gives r asked n c.args.function c.args.arg.now store head.kind head.params.now head.slots head.has_body c.args.name.now c.requires.head c.requires.body c.requires.name c.requires.calm
    c.requires.fits store' before after (c.in_ok-value.value, left) (λ a i. c.in_ok-value.ensures a i) (sym c.len.ensures ∙ c.if-len-size.false ∙ c.size.ensures) c.requires.made c.requires.freed in
    let few : left ≤ n =
    answering.abstract_left r asked n c.args.function c.args.arg.now store head.kind head.params.now head.slots head.has_body c.args.name.now c.requires.head c.requires.body c.requires.name c.requires.calm
    c.requires.fits store' before after (c.in_ok-value.value, left) (λ a i. c.in_ok-value.ensures a i) in
    answering.told_ends _ c.in_ok-value.value n store' after (n - left) left c.told.result gives (omega (arith, few)) c.told.ensures.told c.told.ensures.wanting
