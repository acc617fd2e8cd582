use Rattle.std.proofs.Common.{◌≡◌, ◌∙◌, false, length, map, refl, rules, subst, sym, true}
use Rattle.std.specs.Prelude.{List}
use Rattle.cg_cmachine_layout.specs.Kinds.{layout_of}
use Rattle.cg_cmachine_def.specs.Outcomes.{IsCalm, Outcome}
use Rattle.cg_heap.specs.declared.cell.Scalar.{Scalar}
use Rattle.cg_cmachine.specs.Answering.{sum_sizes}
use Rattle.cg_cmachine.specs.Answers.{Runs}
use Rattle.cg_cmachine.proofs.Answering as answering
use Rattle.cg_cmachine_builtins.proofs.Creating.{apart_at as many_not}
use Rattle.cg_graphs.proofs.Standing.{are_equal as many_are}
use Rattle.cg_cmachine.proofs.answer.run_body.Goals as goal

pub returns-then-not-fits : goal.returns-then-not-fits
returns-then-not-fits g c =
    let r = c.args.run.now.program.now in
    let n = c.args.run.now.budget in
    let asked = (g.X.ExternHeap.on_heaps c.args.table.now).asked in
    let store = g.S.Store.stored c.args.store.now in
    let head = c.args.head in
    let no : c.fits.result ≡ false = search rules in
    answering.body_refused r asked n c.args.function c.args.arg.now store head.kind head.params.now head.slots head.has_body c.requires.head c.requires.body
    (many_not (sum_sizes (map layout_of head.params.now)) (length c.args.arg.now) (sym c.fits.ensures ∙ no))

pub finish-requires-clause-state : goal.finish-requires-clause-state
finish-requires-clause-state g c =
    let r = c.args.run.now.program.now in
    let n = c.args.run.now.budget in
    let asked = (g.X.ExternHeap.on_heaps c.args.table.now).asked in
    let store = g.S.Store.stored c.args.store.now in
    let head = c.args.head in
    let yes : c.fits.result ≡ true = search rules in
    let many = many_are (sum_sizes (map layout_of head.params.now)) (length c.args.arg.now) (sym c.fits.ensures ∙ yes) in
    let copied : c.in_ok-to_vec.field-0.items ≡ c.args.arg.now = search rules in
    (answering.body_said r asked n c.args.function c.args.arg.now c.in_ok-to_vec.field-0.items (record { frame = c.in_ok-frame.frame; stack = c.new.result; left = n; changes = record { made = c.new-2.result; freed = c.new-3.result } }) store head.kind head.params.now head.slots head.has_body c.requires.head c.requires.first c.requires.body many
    c.in_ok-frame.ensures.place c.in_ok-frame.ensures.kind copied c.in_ok-frame.ensures.slots c.new.ensures.items c.new-2.ensures.items c.new-3.ensures.items refl).1

pub finish-requires-clause-calm : goal.finish-requires-clause-calm
finish-requires-clause-calm g c =
    let r = c.args.run.now.program.now in
    let n = c.args.run.now.budget in
    let asked = (g.X.ExternHeap.on_heaps c.args.table.now).asked in
    let store = g.S.Store.stored c.args.store.now in
    let head = c.args.head in
    let yes : c.fits.result ≡ true = search rules in
    let many = many_are (sum_sizes (map layout_of head.params.now)) (length c.args.arg.now) (sym c.fits.ensures ∙ yes) in
    let copied : c.in_ok-to_vec.field-0.items ≡ c.args.arg.now = search rules in
    subst (λ (o : Outcome (List Scalar)). IsCalm o)
    (sym (answering.body_said r asked n c.args.function c.args.arg.now c.in_ok-to_vec.field-0.items (record { frame = c.in_ok-frame.frame; stack = c.new.result; left = n; changes = record { made = c.new-2.result; freed = c.new-3.result } }) store head.kind head.params.now head.slots head.has_body c.requires.head c.requires.first c.requires.body many
    c.in_ok-frame.ensures.place c.in_ok-frame.ensures.kind copied c.in_ok-frame.ensures.slots c.new.ensures.items c.new-2.ensures.items c.new-3.ensures.items refl).0)
    c.requires.calm

pub returns : goal.returns
returns g c =
    let r = c.args.run.now.program.now in
    let n = c.args.run.now.budget in
    let asked = (g.X.ExternHeap.on_heaps c.args.table.now).asked in
    let store = g.S.Store.stored c.args.store.now in
    let head = c.args.head in
    let yes : c.fits.result ≡ true = search rules in
    let many = many_are (sum_sizes (map layout_of head.params.now)) (length c.args.arg.now) (sym c.fits.ensures ∙ yes) in
    let copied : c.in_ok-to_vec.field-0.items ≡ c.args.arg.now = search rules in
    subst (λ (o : Outcome (List Scalar)). Runs o n (g.S.Store.stored c.finish.new.store) c.finish.result)
    (answering.body_said r asked n c.args.function c.args.arg.now c.in_ok-to_vec.field-0.items (record { frame = c.in_ok-frame.frame; stack = c.new.result; left = n; changes = record { made = c.new-2.result; freed = c.new-3.result } }) store head.kind head.params.now head.slots head.has_body c.requires.head c.requires.first c.requires.body many
    c.in_ok-frame.ensures.place c.in_ok-frame.ensures.kind copied c.in_ok-frame.ensures.slots c.new.ensures.items c.new-2.ensures.items c.new-3.ensures.items refl).0
    c.finish.ensures
