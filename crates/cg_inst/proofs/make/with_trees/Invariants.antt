use Rattle.std.proofs.Common.{◌≡◌, map, take}
use Rattle.cg_inst.specs.Founds.{found_in}
use Rattle.cg_inst.specs.Views.{instance_of}
use Rattle.cg_inst.proofs.make.with_trees.Given as goal

abbrev pub invariant-loop-at : goal.invariant-loop-at
invariant-loop-at l = map instance_of l.list ≡ take l.at (found_in l.found)
