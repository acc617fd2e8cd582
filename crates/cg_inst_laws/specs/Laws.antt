-- The laws of lists of instances.
use Rattle.std.specs.Prelude.{◌≡◌, ℕ, zero, suc, List, [], ◌∷◌, map, slice_get, Some, if◌then◌else◌}
use Rattle.std.specs.Option.{option_map}
use Rattle.cg_graphs.specs.Circles.{NoCircle}
use Rattle.cg_core.specs.Kernels.{Function}
use Rattle.cg_inst.specs.Judged.{core_in, functions_in}
use Rattle.cg_inst.specs.Lists.{Cores, IsList, core_of, mentioned_by, same_instance}
use Rattle.cg_kinds.specs.Kinds.{or_unit}
use Rattle.cg_typing.specs.declared.checked.Checked.{Checked}
use Rattle.cg_typing.specs.Functions.{fun_type}
use Rattle.cg_typing.specs.Instances.{AreInstances, Entry, Instance, IsGood, as_arguments}
use Rattle.cg_typing.specs.Subst.{subst_core}

-- what an instance comes to: its function's type and core with its types for the type variables
abbrev pub entry_of : List Function → Cores → Instance → Entry
entry_of functions cores x = record {
  ty = or_unit (fun_type functions x.fun (as_arguments x.types));
  body = option_map (subst_core x.types) (core_of cores x.fun);
}

-- there is one list of instances at most
abbrev pub ListIsOne : Type 0
ListIsOne = (checked : Checked) (one other : List Instance) → IsList (functions_in checked) (core_in checked) one → IsList (functions_in checked) (core_in checked) other → one ≡ other

-- no instance stands in it twice
abbrev pub InstancesAreApart : Type 0
InstancesAreApart =
    (checked : Checked) (list : List Instance) → IsList (functions_in checked) (core_in checked) list
    → (i j : ℕ) (x : Instance) → slice_get list i ≡ Some x → slice_get list j ≡ Some x → i ≡ j

-- each of its instances is one of its function
abbrev pub InstancesAreGood : Type 0
InstancesAreGood =
    (checked : Checked) (list : List Instance) → IsList (functions_in checked) (core_in checked) list
    → (i : ℕ) (x : Instance) → slice_get list i ≡ Some x → IsGood (functions_in checked) x

-- each has an arrow type and a body that is derived at it and mentions only instances of the list: this is known, as it is known of a checked
-- source that what it keeps is derived (cg_typing: Holds)
abbrev pub InstancesAreDerived : Type 0
InstancesAreDerived =
    (checked : Checked) (list : List Instance) → IsList (functions_in checked) (core_in checked) list
    → ∥ AreInstances (functions_in checked) list (map (entry_of (functions_in checked) (core_in checked)) list) ∥₁

-- the place of an instance in a list; the length, where it isn't there
unfoldable pub place_in : List Instance → Instance → ℕ
place_in [] x = zero
place_in (y ∷ ys) x = if same_instance x y then zero else suc (place_in ys x)

-- for each instance of a list, the places of those that it mentions
abbrev pub instance_mentions : List Function → Cores → List Instance → List (List ℕ)
instance_mentions functions cores list = map (λ x. map (place_in list) (mentioned_by functions cores x)) list

-- no instance mentions itself, directly or through others
abbrev pub InstancesAreTotal : Type 0
InstancesAreTotal =
    (checked : Checked) (list : List Instance) → IsList (functions_in checked) (core_in checked) list → NoCircle (instance_mentions (functions_in checked) (core_in checked) list)
