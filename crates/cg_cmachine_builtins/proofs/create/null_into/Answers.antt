use Rattle.std.proofs.Common.{refl}
use Rattle.cg_cmachine_builtins.proofs.Creating.{null_never, null_refused}
use Rattle.cg_cmachine_builtins.proofs.create.null_into.Goals as goal

pub returns-in-Some-clause-lands : goal.returns-in-Some-clause-lands
returns-in-Some-clause-lands g c =
    λ changes. rw (null_refused c.args.request.name.now c.args.request.allocator c.args.request.fresh (g.S.Store.stored c.args.store.now) c.args.slots.now c.args.place c.in-Some.why _ refl c.in-Some.ensures) refl

pub returns-in-Err-clause-lands : goal.returns-in-Err-clause-lands
returns-in-Err-clause-lands g c =
    absurd (null_never c.args.request.name.now c.args.request.allocator c.args.request.fresh (g.S.Store.stored c.args.store.now) c.args.slots.now c.args.place c.in-Err.why _ c.pop.ensures.store c.in-None.ensures
    c.in-Err.ensures.stuck)
