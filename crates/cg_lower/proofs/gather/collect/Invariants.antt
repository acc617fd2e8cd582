use Rattle.std.proofs.Common.{[], map, take}
use Rattle.std.specs.List.{flat_map}
use Rattle.cg_lower.specs.Collected.{arrows_of, Grows, list_of, types_of}
use Rattle.cg_lower.specs.Copies.{pair_of}
use Rattle.cg_lower.proofs.gather.collect.Given as goal

abbrev pub invariant-loop-copy : goal.invariant-loop-copy
invariant-loop-copy l =
    Grows (record { list = []; arrows = [] }) l.collected.places [] l.collected.structs.table
    (flat_map types_of (map pair_of (take l.copy-index l.copy-items))) (flat_map arrows_of (map pair_of (take l.copy-index l.copy-items)))
    (list_of (map pair_of (take l.copy-index l.copy-items)))
