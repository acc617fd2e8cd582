use Rattle.std.proofs.Common.{sym, ◌∙◌}
use Rattle.std.proofs.lemmas.Result.{err_from_is_err_and}
use Rattle.cg_cmachine_values.specs.Values.{value_of}
use Rattle.cg_cmachine_values.proofs.Writing.{room_is, write_refused}
use Rattle.cg_cmachine_values.proofs.assign.write_part.Goals as goal

pub returns-in_err-value-clause-stuck : goal.returns-in_err-value-clause-stuck
returns-in_err-value-clause-stuck g c =
    let p = err_from_is_err_and c.from_residual.result c.from_residual.ensures.1 in
    let is = sym c.written_length.ensures ∙ c.in-Some.is in
    let room = room_is _ _ _ _ _ c.size.ensures c.has_room.ensures c.if-not-has_room.false in
    rw (p.1, p.2) (write_refused (g.S.Store.stored c.args.store.now) c.args.address _ c.args.part (value_of c.args.value) _ is room c.in_err-value.ensures.gives)
