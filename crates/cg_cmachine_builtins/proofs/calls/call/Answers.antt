use Rattle.std.proofs.Common.{false, map}
use Rattle.cg_cmachine_values.specs.Values.{value_of}
use Rattle.cg_cmachine_builtins.specs.Acts.{act_of}
use Rattle.cg_cmachine_builtins.specs.Called.{built_in_of, state_of}
use Rattle.cg_cmachine_builtins.proofs.Calling.{called_does, called_stuck}
use Rattle.cg_cmachine_builtins.proofs.calls.call.Goals as goal

pub returns-in-Err : goal.returns-in-Err
returns-in-Err g c = called_stuck _ _ _ _ _ _ c.in-Err.ensures

pub returns-in-Ok : goal.returns-in-Ok
returns-in-Ok g c =
    rw (called_does (built_in_of c.args.built_in) false (map value_of c.args.values.now) (state_of (g.S.Store.stored c.args.store.now) c.args.changes.now) c.args.left
    (act_of (g.S.Store.stored c.args.store.now) c.in-Ok.act) c.in-Ok.ensures) c.perform.ensures
