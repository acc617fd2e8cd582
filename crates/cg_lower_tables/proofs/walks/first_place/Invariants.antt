use Rattle.std.proofs.Common.{◌≡◌, drop, map, unwrap_or}
use Rattle.cg_inst.specs.Views.{instance_of}
use Rattle.cg_update.specs.Updates.{place_of}
use Rattle.cg_lower_tables.proofs.InstanceSteps.{found_from}
use Rattle.cg_lower_tables.proofs.walks.first_place.Given as goal

abbrev pub invariant-loop-other : goal.invariant-loop-other
invariant-loop-other l =
    (l.at ≡ l.other-index)
    × (unwrap_or (place_of (instance_of l.instance) (map instance_of l.list)) 0 ≡ found_from l.at (place_of (instance_of l.instance) (map instance_of (drop l.other-index l.list))))
