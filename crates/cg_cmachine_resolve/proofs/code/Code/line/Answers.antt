use Rattle.std.proofs.Common.{◌∙◌}
use Rattle.cg_cmachine_resolve.proofs.Lookups.{item_is, item_none, item_some}
use Rattle.cg_cmachine_resolve.proofs.Positions.{item_in, item_past}
use Rattle.cg_cmachine_resolve.proofs.code.Code.line.Goals as goal

pub returns-in_err-lines-clause-line : goal.returns-in_err-lines-clause-line
returns-in_err-lines-clause-line c =
    rw c.from_residual.ensures
    (item_past (λ lines. lines.items) c.args.self.now.blocks.items c.args.block c.args.index
    (item_none c.args.self.now.blocks.items c.args.block c.get.result (rw c.deref.ensures.value at c.get.ensures.lookup) c.in_err-lines.was))

pub returns-clause-line : goal.returns-clause-line
returns-clause-line c =
    item_is c.in_ok-lines.lines.now.items c.args.index c.get-2.result (rw c.deref-2.ensures.value at c.get-2.ensures.lookup)
    ∙ item_in (λ lines. lines.items) c.args.self.now.blocks.items c.args.block c.args.index c.in_ok-lines.lines.now
    (item_some c.args.self.now.blocks.items c.args.block c.get.result c.in_ok-lines.lines (rw c.deref.ensures.value at c.get.ensures.lookup) c.in_ok-lines.was)
