use Rattle.cg_cmachine_values.specs.Values.{value_of}
use Rattle.cg_cmachine_running.proofs.Tops.{place_keeps}
use Rattle.cg_cmachine_running.proofs.statements.assign.Goals as goal

pub returns-in-Ok-clause-top : goal.returns-in-Ok-clause-top
returns-in-Ok-clause-top g c =
    place_keeps (g.S.Store.stored c.args.store.now) (g.S.Store.stored c.write.new.store) c.as_mut_slice.result.now c.write.new.slots c.args.place (value_of c.in_ok-value.value) c.in-Ok.ensures.done
