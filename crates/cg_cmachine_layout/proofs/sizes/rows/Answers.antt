use Rattle.cg_cmachine_layout.proofs.Members.{rows_turn}
use Rattle.cg_cmachine_layout.proofs.sizes.rows.Goals as goal

pub loop-members-preserved : goal.loop-members-preserved
loop-members-preserved c =
    rows_turn c.args.names.now c.args.sizes.now c.args.structs.now c.loop-members.rows.items c.push.new.self.items c.loop-members.members-index c.members-item.result c.in_ok-lay_out.field-0
    c.loop-members-test.true c.members-item.is c.loop-members.invariant c.in_ok-lay_out.ensures c.in_ok-push.ensures.items
