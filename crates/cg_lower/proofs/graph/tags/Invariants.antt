use Rattle.std.proofs.Common.{◌≡◌, map, take}
use Rattle.cg_graphs.specs.Orders.{lists}
use Rattle.cg_lower.specs.Calls.{tags_of}
use Rattle.cg_lower.specs.Collected.{entries_of}
use Rattle.cg_lower.specs.Copies.{pair_of}
use Rattle.cg_lower.proofs.graph.tags.Given as goal

abbrev pub invariant-loop-copy : goal.invariant-loop-copy
invariant-loop-copy l =
    (lists l.tags.items ≡ tags_of (entries_of (map pair_of (take l.copy-index l.copy-items))) l.fn.places.arrows) × (l.places ≡ l.fn.places) × (l.at ≡ l.copy-index)
