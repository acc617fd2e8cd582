use Rattle.cg_cmachine_resolve.proofs.Lookups.{item_none, item_some}
use Rattle.cg_cmachine_resolve.proofs.Positions.{line_found, no_function}
use Rattle.cg_cmachine_resolve.proofs.code.Resolved.line.Goals as goal

pub returns-in_err-code-clause-line : goal.returns-in_err-code-clause-line
returns-in_err-code-clause-line c =
    rw (c.from_residual.ensures, ← c.self.view_is)
    (no_function c.self.inside.named c.self.inside.functions.items c.args.at (item_none c.self.inside.functions.items c.args.at.function c.get.result (rw c.deref.ensures.value at c.get.ensures.lookup) c.in_err-code.was))

pub returns-clause-line : goal.returns-clause-line
returns-clause-line c =
    rw (← c.self.view_is)
    (line_found c.self.inside.named c.self.inside.functions.items c.args.at c.in_ok-code.code.now c.line.result c.self.invariant
    (item_some c.self.inside.functions.items c.args.at.function c.get.result c.in_ok-code.code (rw c.deref.ensures.value at c.get.ensures.lookup) c.in_ok-code.was) c.line.ensures.line)
