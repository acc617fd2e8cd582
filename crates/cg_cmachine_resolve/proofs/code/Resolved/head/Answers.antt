use Rattle.cg_cmachine_resolve.proofs.Lookups.{item_none, item_some}
use Rattle.cg_cmachine_resolve.proofs.Positions.{first_at, head_at, no_head}
use Rattle.cg_cmachine_resolve.proofs.code.Resolved.head.Goals as goal

pub returns-in_err-code-clause-head : goal.returns-in_err-code-clause-head
returns-in_err-code-clause-head c =
    rw (c.from_residual.ensures, ← c.self.view_is)
    (no_head c.self.inside.named c.self.inside.functions.items c.args.function c.self.invariant
    (item_none c.self.inside.functions.items c.args.function c.get.result (rw c.deref.ensures.value at c.get.ensures.lookup) c.in_err-code.was))

pub returns-clause-head : goal.returns-clause-head
returns-clause-head c =
    rw (c.as_slice.ensures.value, ← c.self.view_is)
    (head_at c.self.inside.named c.self.inside.functions.items c.args.function c.in_ok-code.code.now c.self.invariant
    (item_some c.self.inside.functions.items c.args.function c.get.result c.in_ok-code.code (rw c.deref.ensures.value at c.get.ensures.lookup) c.in_ok-code.was))

pub returns-clause-first : goal.returns-clause-first
returns-clause-first c =
    rw (← c.self.view_is)
    (first_at c.self.inside.named c.self.inside.functions.items c.args.function c.in_ok-code.code.now c.self.invariant
    (item_some c.self.inside.functions.items c.args.function c.get.result c.in_ok-code.code (rw c.deref.ensures.value at c.get.ensures.lookup) c.in_ok-code.was))
