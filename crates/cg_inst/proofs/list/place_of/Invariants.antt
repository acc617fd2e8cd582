use Rattle.std.proofs.Common.{◌≡◌, ◌<◌, ℕ, Some, map, slice_get}
use Rattle.cg_inst.specs.Views.{instance_of}
use Rattle.cg_inst.proofs.list.place_of.Given as goal

abbrev pub invariant-loop-at : goal.invariant-loop-at
invariant-loop-at l = (i : ℕ) → i < l.at → slice_get (map instance_of l.list) i ≡ Some (instance_of l.instance) → ⊥
