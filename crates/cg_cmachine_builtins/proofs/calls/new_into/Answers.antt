use Rattle.cg_cmachine_layout.specs.Kinds.{shape_layout}
use Rattle.cg_cmachine_def.specs.Layouts.{size}
use Rattle.cg_cmachine_values.specs.Values.{value_of}
use Rattle.cg_cmachine_builtins.specs.Called.{state_of}
use Rattle.cg_cmachine_builtins.proofs.Creating.{struct_asked}
use Rattle.cg_cmachine_builtins.proofs.calls.new_into.Goals as goal

pub returns-in-Ok-clause-lands : goal.returns-in-Ok-clause-lands
returns-in-Ok-clause-lands g c =
    rw (struct_asked c.args.name.now c.bytes.result.now (size (shape_layout c.args.shape)) c.size.result (value_of c.args.heap.now) (state_of (g.S.Store.stored c.args.store.now) c.args.changes.now) c.args.left
    c.in-Ok.allocator c.in-Ok.ensures c.bytes.ensures c.size.ensures) c.create_into.ensures.lands
