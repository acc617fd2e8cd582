-- The laws, for the list of instances of a checked source.
use Rattle.std.proofs.Common.{List}
use Rattle.std.proofs.Math.Logic.{∥∥₁_elim, ∥∥₁_map}
use Rattle.std.proofs.Props.{props}
use Rattle.cg_core.specs.Kernels.{Function}
use Rattle.cg_inst.specs.Judged.{core_in, functions_in}
use Rattle.cg_inst_laws.specs.Laws.{InstancesAreApart, InstancesAreDerived, InstancesAreGood, InstancesAreTotal, ListIsOne}
use Rattle.cg_typing.specs.Instances.{Instance, IsGood}
use Rattle.cg_inst_laws.proofs.Bodies.{source_typed, tree_in}
use Rattle.cg_inst_laws.proofs.Circles.{no_circle}
use Rattle.cg_inst_laws.proofs.Each.{each_at}
use Rattle.cg_inst_laws.proofs.Entries.{list_derived, list_good}
use Rattle.cg_inst_laws.proofs.Growth.{no_instance_twice, one_list}

pub list_is_one : ListIsOne
list_is_one checked one other p q = one_list (functions_in checked) (core_in checked) one other p q

pub instances_are_apart : InstancesAreApart
instances_are_apart checked list p i j x e f = no_instance_twice (functions_in checked) (core_in checked) list p i j x e f

-- there is one proof at most that an instance is good
good_once : (functions : List Function) (x : Instance) → IsProp (IsGood functions x)
good_once functions x = hlevel props

pub instances_are_good : InstancesAreGood
instances_are_good checked list p i x e =
    ∥∥₁_elim checked.kept (good_once (functions_in checked) x)
    (λ kept. each_at (IsGood (functions_in checked)) list i x (list_good (functions_in checked) (core_in checked) (tree_in checked) (source_typed checked kept) list p) e)

pub instances_are_derived : InstancesAreDerived
instances_are_derived checked list p =
    ∥∥₁_map checked.kept (λ kept. list_derived (functions_in checked) (core_in checked) (tree_in checked) (source_typed checked kept) list p)

-- nothing has at most one proof
pub instances_are_total : InstancesAreTotal
instances_are_total checked list p i r =
    ∥∥₁_elim checked.kept (hlevel props)
    (λ kept. no_circle (functions_in checked) (core_in checked) (tree_in checked) (source_typed checked kept) checked.lawful.total list
    (list_good (functions_in checked) (core_in checked) (tree_in checked) (source_typed checked kept) list p) i r)
