use Rattle.std.proofs.Common.{sym, subst}
use Rattle.cg_graphs.specs.Orders.{lists}
use Rattle.cg_graphs.specs.Reach.{AreReached}
use Rattle.cg_graphs.proofs.Found.{found}
use Rattle.cg_graphs.proofs.reach.reached.Goals as goal

pub returns : goal.returns
returns c =
    subst (AreReached (lists c.args.edges.now) c.args.from) (sym c.put.ensures)
    (found (lists c.args.edges.now) c.args.from c.in_ok-marks.marks.items c.in_ok-marks.ensures)
