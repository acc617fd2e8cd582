use Rattle.std.proofs.Common.{true, map, ap}
use Rattle.cg_cmachine_def.specs.Outcomes.{bind}
use Rattle.cg_cmachine_values.specs.Values.{value_of}
use Rattle.cg_cmachine_builtins.specs.Acts.{act_of}
use Rattle.cg_cmachine_builtins.specs.Called.{built_in_of, into_place, state_of}
use Rattle.cg_cmachine_builtins.proofs.Calling.{called_does, called_stuck}
use Rattle.cg_cmachine_builtins.proofs.calls.call_into.Goals as goal

pub returns-in-Err-clause-lands : goal.returns-in-Err-clause-lands
returns-in-Err-clause-lands g c = ap (λ o. bind o (into_place (g.S.Store.stored c.args.store.now) c.args.slots.now c.args.place)) (called_stuck _ _ _ _ _ _ c.in-Err.ensures)

pub returns-in-Ok-clause-lands : goal.returns-in-Ok-clause-lands
returns-in-Ok-clause-lands g c =
    rw (called_does (built_in_of c.args.built_in) true (map value_of c.args.values.now) (state_of (g.S.Store.stored c.args.store.now) c.args.changes.now) c.args.left
    (act_of (g.S.Store.stored c.args.store.now) c.in-Ok.act) c.in-Ok.ensures) c.perform_into.ensures.lands
