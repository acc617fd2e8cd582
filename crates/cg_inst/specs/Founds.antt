-- A list of instances that grows: keys over a table of types.
use Rattle.std.specs.Prelude.{◌≡◌, ℕ, ◌<◌, ◌≤◌, List, map, length, slice_get, Option, Some, None, Result, Ok, Err}
use Rattle.std.specs.Global.{Vec}
use Rattle.cg_base.specs.declared.fun.Fun.{Fun}
use Rattle.cg_base.specs.Types.{Tau}
use Rattle.cg_base.specs.declared.limit.Limit.TheVariants.{Instances as OfInstances}
use Rattle.cg_inst.specs.declared.fault.InstFault.{InstFault}
use Rattle.cg_inst.specs.declared.fault.InstFault.TheVariants.{Limit, Memory}
use Rattle.cg_inst.specs.declared.keys.Key.{Key}
use Rattle.cg_inst.specs.Keyed.{instance_at}
use Rattle.cg_core.specs.Kernels.{Function}
use Rattle.cg_inst.specs.Judged.{AreTooMany}
use Rattle.cg_inst.specs.Lists.{Cores, IsList, most_instances}
use Rattle.cg_inst_types.specs.Layers.{types_at}
use Rattle.cg_inst_types.specs.Places.{Each}
use Rattle.cg_typing.specs.Instances.{Instance}

-- types by their places, and keys over them
pub record Keyed : Type 0 where
  pub types : List Tau
  pub keys : List Key

-- the instances that are found
abbrev pub found_in : Keyed → List Instance
found_in f = map (instance_at f.types) f.keys

-- the instance at a place, its types by their places, or none
abbrev pub IsEntryAt : Keyed → ℕ → Option (Fun × Vec ℕ) → Type 0
IsEntryAt f at None = slice_get (found_in f) at ≡ None
IsEntryAt f at (Some e) = (slice_get (found_in f) at ≡ Some (record { fun = e.0; types = types_at f.types e.1.items })) × Each (λ i. i < length f.types) e.1.items

-- the place where an instance is found, and None exactly where it is found at none
abbrev pub LocatesInstance : List Instance → Instance → Option ℕ → Type 0
LocatesInstance list x (Some at) = slice_get list at ≡ Some x
LocatesInstance list x None = (at : ℕ) → slice_get list at ≡ Some x → ⊥

-- what comes of going on: the instances are these, or there are too many on the way to them
abbrev pub Comes : Keyed → List Instance → Result Unit InstFault → Type 0
Comes new list (Ok _) = found_in new ≡ list
Comes new list (Err (Limit OfInstances)) = most_instances < length list
Comes new list (Err (Limit _)) = ⊥
Comes new list (Err Memory) = Unit {0}

module _ (functions : List Function) (cores : Cores) where
  -- what comes of the search: the list, with few enough instances, or that there are too many
  abbrev pub Finds : Keyed → Result Unit InstFault → Type 0
  Finds new (Ok _) = IsList functions cores (found_in new) × (length (found_in new) ≤ most_instances)
  Finds new (Err (Limit OfInstances)) = AreTooMany functions cores
  Finds new (Err (Limit _)) = ⊥
  Finds new (Err Memory) = Unit {0}

  abbrev pub FindsThem : Result Keyed InstFault → Type 0
  FindsThem (Ok new) = IsList functions cores (found_in new) × (length (found_in new) ≤ most_instances)
  FindsThem (Err (Limit OfInstances)) = AreTooMany functions cores
  FindsThem (Err (Limit _)) = ⊥
  FindsThem (Err Memory) = Unit {0}
