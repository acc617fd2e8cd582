use Rattle.std.proofs.Common.{arith}
use Rattle.cg_cmachine_values.specs.Values.{value_of}
use Rattle.cg_cmachine_running.proofs.Tops.{place_keeps}
use Rattle.cg_cmachine_running.proofs.running.put.Goals as goal

pub returns-in-Ok-clause-low : goal.returns-in-Ok-clause-low
returns-in-Ok-clause-low g c =
    let same = place_keeps (g.S.Store.stored c.args.store.now) (g.S.Store.stored c.write.new.store) c.as_mut_slice.result.now c.write.new.slots c.args.place (value_of c.args.value) c.in-Ok.ensures.done in
    let low = c.requires.low in
    omega (arith, same, low)
