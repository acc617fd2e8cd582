use Rattle.cg_resolve_mentions.proofs.GraphSteps.{items_closed}
use Rattle.cg_resolve_mentions.proofs.graph.mentions.Goals as goal

pub returns-clause-closed : goal.returns-clause-closed
returns-clause-closed c = items_closed c.loop-item.edges.items c.args.declared.now.items.now c.loop-item.item-index c.loop-item-test.false c.loop-item.invariant
