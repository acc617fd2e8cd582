use Rattle.std.proofs.Common.{◌∙◌}
use Rattle.cg_cmachine_values.proofs.Writing.{put_more}
use Rattle.cg_cmachine_values.proofs.assign.put.Goals as goal

pub loop-i-preserved : goal.loop-i-preserved
loop-i-preserved g c = λ us here room.
    c.set_field.ensures.store ∙ put_more (g.S.Store.stored c.args.store.now) _ c.args.address c.args.start c.loop-i.i c.args.scalars.now us _ c.loop-i-test.true room (c.loop-i.invariant us here room)
