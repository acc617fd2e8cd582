use Rattle.std.proofs.Common.{sym, ◌∙◌, arith}
use Rattle.std.proofs.lemmas.Bool.Decides.{nat_tests}
use Rattle.cg_flat.proofs.Rooms.{fit_found, fit_none, none_found}
use Rattle.cg_flat.proofs.room.start_for.Goals as goal

pub returns-in-Some-clause-start : goal.returns-in-Some-clause-start
returns-in-Some-clause-start c =
    let e = fit_found c.args.count c.args.len c.args.holes.now c.in-Some.index (record { start = 0; count = 0 }) (sym c.first_with_room.ensures ∙ c.in-Some.is) in
    grind (arith, nat_tests)

pub returns-in-None-clause-start : goal.returns-in-None-clause-start
returns-in-None-clause-start c =
    let e = fit_none c.args.count c.args.len c.args.holes.now (none_found c.args.count c.args.holes.now (sym c.first_with_room.ensures ∙ c.in-None.is)) in
    grind (arith, nat_tests)
