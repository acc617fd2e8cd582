-- What an entry reaches by mentions (docs/LANGUAGE.md, "Entries").
use Rattle.std.specs.Prelude.{◌≡◌, ℕ, Bool, true, false, List, [], get_or, Option, Some, None, slice_get}
use Rattle.std.specs.List.{flat_map}
use Rattle.cg_core.specs.Kernels.{Function, Body}
use Rattle.cg_core.specs.Terms.{Note, Tree, term, fun}
use Rattle.cg_core_def.specs.Lawful.{kernel_mentions, user_of}
use Rattle.cg_graphs.specs.Reach.{IsReached}
use Rattle.cg_typing.specs.Instances.{nodes_of}

-- a function without a body is this one, or is reached from it by mentions in bodies
pub record ReachesAbstract (functions : List Function) (at : ℕ) : Type 0 where
  pub place : ℕ
  pub function : Function
  pub stands : slice_get functions place ≡ Some function
  pub abstract : function.body ≡ None
  pub reached : IsReached (kernel_mentions functions) at place

-- ---- how it is found

-- the functions of the source that a node of a core mentions itself
abbrev pub users_at : Tree Note → List ℕ
users_at (term note (fun f args)) = user_of f
users_at t = []

-- those that the nodes of a core mention, where there is one
abbrev pub users_in : Option (Tree Note) → List ℕ
users_in None = []
users_in (Some core) = flat_map users_at (nodes_of core)

abbrev pub is_absent : Option Body → Bool
is_absent None = true
is_absent (Some b) = false

-- there is a function here, and it has no body
abbrev pub lacks_body : Option Function → Bool
lacks_body None = false
lacks_body (Some f) = is_absent f.body

-- a function without a body stands where there is a mark
abbrev pub IsMarkedAbstract : List Function → List Bool → Type 0
IsMarkedAbstract functions marks = (place : ℕ) × (lacks_body (slice_get functions place) ≡ true) × (get_or marks place false ≡ true)
