use Rattle.std.proofs.Common.{◌≡◌, Some, [], ◌++◌, drop, map, slice_get}
use Rattle.cg_core.specs.Kernels.{function_of}
use Rattle.cg_inst.specs.Founds.{found_in}
use Rattle.cg_inst.specs.Lists.{front_from}
use Rattle.cg_inst_types.specs.Listings.{listing}
use Rattle.cg_inst_types.specs.Places.{Each}
use Rattle.cg_inst.proofs.FrontSteps.{IsBefore}
use Rattle.cg_inst.proofs.found.Found.enter_front.Given as goal

abbrev pub invariant-loop-at : goal.invariant-loop-at
invariant-loop-at l =
    (slice_get l.self.types l.none ≡ Some (listing []))
    × (found_in l.self ++ front_from l.at (drop l.at (map function_of l.functions)) ≡ front_from 0 (map function_of l.functions))
    × Each (IsBefore l.at) (found_in l.self)
