use Rattle.std.proofs.Common.{sym, ◌∙◌, arith}
use Rattle.cg_cmachine_builtins.proofs.Creating.{create_never, create_refused}
use Rattle.cg_cmachine_builtins.proofs.create.create_into.Goals as goal

pub returns-then-not-is_granted-clause-lands : goal.returns-then-not-is_granted-clause-lands
returns-then-not-is_granted-clause-lands g c = rw (sym c.is_granted.ensures ∙ c.if-not-is_granted.true) (c.null_into.ensures.lands c.args.changes.now)

pub returns-in-Some-clause-lands : goal.returns-in-Some-clause-lands
returns-in-Some-clause-lands g c =
    create_refused c.args.request.name.now c.args.request.allocator c.args.request.fresh (g.S.Store.stored c.args.store.now) c.args.slots.now c.args.place _ _ _ _ _ c.in-Some.why
    (sym c.is_granted.ensures ∙ c.if-not-is_granted.false) (omega (arith, c.if-left-request.false)) c.in-Some.ensures

pub returns-in-Err-clause-lands : goal.returns-in-Err-clause-lands
returns-in-Err-clause-lands g c =
    absurd (create_never c.args.request.name.now c.args.request.allocator c.args.request.fresh (g.S.Store.stored c.args.store.now) c.args.slots.now c.args.place c.in-Err.why _ _
    c.in_ok-address.ensures.store c.in-None.ensures c.in-Err.ensures.stuck)
