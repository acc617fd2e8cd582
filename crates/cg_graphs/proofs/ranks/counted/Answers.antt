use Rattle.std.proofs.Common.{arith}
use Rattle.cg_graphs.specs.Orders.{lists}
use Rattle.cg_graphs.proofs.OrderSteps.{bounded_at, pass_next, pass_last}
use Rattle.cg_graphs.proofs.ranks.counted.Goals as goal

pub raise-requires : goal.raise-requires
raise-requires c =
    record { bounded = bounded_at (lists c.args.edges.now) c.loop-pass._pass 9223372036854775808 c.loop-pass.ranks.items c.loop-pass.invariant (omega (arith, c.loop-pass-test.true, c.requires.few)) }

pub loop-pass-preserved : goal.loop-pass-preserved
loop-pass-preserved c = pass_next (lists c.args.edges.now) c.loop-pass._pass c.loop-pass.ranks.items c.in_ok-next.next.items c.loop-pass.invariant c.in_ok-next.ensures

pub returns-then-are_same : goal.returns-then-are_same
returns-then-are_same c =
    pass_last (lists c.args.edges.now) c.loop-pass._pass _ c.loop-pass.ranks.items c.in_ok-next.next.items c.loop-pass.invariant c.in_ok-next.ensures
    (c.are_same.ensures c.if-are_same.true) (omega (arith, c.loop-pass-test.true))
