-- What `instances` answers of a source.
use Rattle.std.specs.Prelude.{ℕ, ◌≤◌, ◌<◌, List, length}
use Rattle.cg_core.specs.Kernels.{Function, kernel_of}
use Rattle.cg_inst.specs.Lists.{Cores, after, IsList, most_instances, most_nodes, nodes_in, HaveSmallTypes}
use Rattle.cg_typing.specs.declared.checked.Checked.{Checked}
use Rattle.cg_typing.specs.Holds.{cores_in, kept_at, kernel_in}
use Rattle.cg_typing.specs.Instances.{Instance}
use Rattle.cg_typing.specs.Kept.{maybe_core}

abbrev pub functions_in : Checked → List Function
functions_in checked = kernel_of (kernel_in checked)

abbrev pub core_in : Checked → Cores
core_in checked i = maybe_core (kept_at (cores_in checked) i)

module _ (functions : List Function) (cores : Cores) where
  -- the list is there and within all limits
  pub record IsWithin (list : List Instance) : Type 0 where
    pub is : IsList functions cores list
    pub few : length list ≤ most_instances
    pub nodes : nodes_in cores list ≤ most_nodes
    pub types : HaveSmallTypes cores list

  -- there are more instances than there may be: the list passes the limit on its way
  pub record AreTooMany : Type 0 where
    pub steps : ℕ
    pub many : most_instances < length (after functions cores steps)

  -- there are few enough, and their bodies have more nodes than they may have
  pub record HaveTooManyNodes : Type 0 where
    pub list : List Instance
    pub is : IsList functions cores list
    pub few : length list ≤ most_instances
    pub many : most_nodes < nodes_in cores list

  -- both are within their limits, and a node's type has more nodes than it may have
  pub record HaveLargeTypes : Type 0 where
    pub list : List Instance
    pub is : IsList functions cores list
    pub few : length list ≤ most_instances
    pub nodes : nodes_in cores list ≤ most_nodes
    pub large : HaveSmallTypes cores list → ⊥
