use Rattle.std.proofs.Common.{◌≡◌, map, take}
use Rattle.cg_graphs.specs.Orders.{lists}
use Rattle.cg_resolve_def.specs.Mentions.{entry_mentions}
use Rattle.cg_resolve_declared.specs.Declarations.{entries_of}
use Rattle.cg_resolve_declared.specs.Views.{entries_in}
use Rattle.cg_resolve_mentions.proofs.graph.mentions.Given as goal

abbrev pub invariant-loop-item : goal.invariant-loop-item
invariant-loop-item l = lists l.edges.items ≡ map (entry_mentions (entries_of l.declared)) (entries_in (take l.item-index l.item-items))
