use Rattle.std.proofs.Common.{◌≡◌, map, take}
use Rattle.cg_graphs.specs.Orders.{lists}
use Rattle.cg_lower.specs.Calls.{calls_in, whole_by}
use Rattle.cg_lower.specs.Copies.{pair_of}
use Rattle.cg_lower.proofs.graph.calls.Given as goal

abbrev pub invariant-loop-copy : goal.invariant-loop-copy
invariant-loop-copy l = (lists l.edges.items ≡ calls_in (whole_by l.fn.places) (map pair_of (take l.copy-index l.copy-items))) × (l.places ≡ l.fn.places)
