use Rattle.std.proofs.Common.{◌<◌, arith, length}
use Rattle.cg_cmachine_running.proofs.Entries.{more_unset}
use Rattle.cg_cmachine_running.proofs.calls.begin.Goals as goal

pub loop-slots-preserved : goal.loop-slots-preserved
loop-slots-preserved c =
    let less : length c.loop-slots.slots.items < c.args.head.slots = grind arith in
    more_unset c.loop-slots.slots.items c.push.new.self.items _ c.args.head.slots c.in_ok-push.ensures.items less c.loop-slots.invariant
