use Rattle.std.proofs.Common.{◌≡◌, ◌∙◌, ap, false, length, map, nat_eq, rules, sym, true}
use Rattle.cg_cmachine_layout.specs.Kinds.{layout_of}
use Rattle.cg_cmachine.specs.Answering.{sum_sizes}
use Rattle.cg_cmachine.proofs.Answering as answering
use Rattle.cg_cmachine_builtins.proofs.Creating.{apart_at as many_not}
use Rattle.cg_graphs.proofs.Standing.{are_equal as many_are}
use Rattle.cg_cmachine.proofs.answer.run_abstract.Goals as goal

pub returns-then-not-fits : goal.returns-then-not-fits
returns-then-not-fits g c =
    let r = c.args.run.now.program.now in
    let n = c.args.run.now.budget in
    let asked = (g.X.ExternHeap.on_heaps c.args.table.now).asked in
    let store = g.S.Store.stored c.args.store.now in
    let head = c.args.head in
    let no : c.fits.result ≡ false = search rules in
    answering.abstract_refused r asked n c.args.function c.args.arg.now store head.kind head.params.now head.slots head.has_body c.args.name.now c.requires.head c.requires.body c.requires.name c.requires.calm
    (many_not (sum_sizes (map layout_of head.params.now)) (length c.args.arg.now) (ap (λ us. nat_eq (sum_sizes (map layout_of head.params.now)) (length us)) (sym c.as_slice.ensures) ∙ sym c.fits.ensures ∙ no))

pub run_table-requires-clause-fits : goal.run_table-requires-clause-fits
run_table-requires-clause-fits g c =
    let head = c.args.head in
    let yes : c.fits.result ≡ true = search rules in
    many_are (sum_sizes (map layout_of head.params.now)) (length c.args.arg.now) (ap (λ us. nat_eq (sum_sizes (map layout_of head.params.now)) (length us)) (sym c.as_slice.ensures) ∙ sym c.fits.ensures ∙ yes)
