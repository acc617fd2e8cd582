-- The list of instances of a source (docs/LANGUAGE.md, "Instances"): the user's functions without type variables, in the order of their
-- signatures, and then, while the bodies in the list are gone through in order, each instance that one mentions and that isn't in it.
use Rattle.std.specs.Prelude.{◌≡◌, ℕ, zero, suc, ◌+◌, ◌≤◌, Bool, true, false, ◌&&◌, nat_eq, IsTrue, List, [], ◌∷◌, ◌++◌, length, slice_get, Option, Some, None, if◌then◌else◌}
use Rattle.std.specs.List.{All, list_any}
use Rattle.cg_base.specs.declared.fun.Fun.{Fun}
use Rattle.cg_base.specs.declared.fun.Fun.TheVariants.{User, Lib as OfLib}
use Rattle.cg_base.specs.declared.fun.Lib.{Lib}
use Rattle.cg_base.specs.declared.fun.Lib.TheVariants as libs
use Rattle.cg_base.specs.declared.kind.Bound.{Bound}
use Rattle.cg_base.specs.Same.{same_type}
use Rattle.cg_base.specs.Types.{Tau}
use Rattle.cg_core.specs.Kernels.{Function}
use Rattle.cg_core.specs.Terms.{Note, Tree}
use Rattle.cg_kinds.specs.Kinds.{subst}
use Rattle.cg_typing.specs.Instances.{Instance, mentioned, nodes_of}
use Rattle.cg_typing.specs.Parts.{is_small_enough}
use Rattle.cg_typing.specs.Rules.{type_at}

-- ---- when two instances are one

-- the place of a function in the list of the library's functions
abbrev pub place_of : Lib → ℕ
place_of libs.New = 0
place_of libs.Free = 1
place_of libs.Create = 2
place_of libs.FreeArray = 3
place_of libs.Length = 4
place_of libs.Get = 5
place_of libs.Put = 6
place_of libs.Map = 7
place_of libs.Fold = 8
place_of libs.Seq32 = 9
place_of libs.Seq64 = 10
place_of libs.Seq32Break = 11

abbrev pub same_function : Fun → Fun → Bool
same_function (User i) (User j) = nat_eq i j
same_function (OfLib l) (OfLib m) = nat_eq (place_of l) (place_of m)
same_function _ _ = false

unfoldable pub same_list : List Tau → List Tau → Bool
same_list [] [] = true
same_list (t ∷ ts) (u ∷ us) = same_type t u && same_list ts us
same_list _ _ = false

-- two instances are one: the same function at the same types
abbrev pub same_instance : Instance → Instance → Bool
same_instance x y = same_function x.fun y.fun && same_list x.types y.types

-- ---- the list

-- a list with one instance more, if it isn't in it
abbrev pub with_instance : List Instance → Instance → List Instance
with_instance known x = if list_any (same_instance x) known then known else known ++ x ∷ []

-- the same with each of some in turn
unfoldable pub with_instances : List Instance → List Instance → List Instance
with_instances known [] = known
with_instances known (x ∷ xs) = with_instances (with_instance known x) xs

-- a user's function is in front where it has no type variables
abbrev pub front_one : ℕ → List Bound → List Instance
front_one i [] = record { fun = User i; types = [] } ∷ []
front_one i (b ∷ bs) = []

-- the functions without type variables from a position on
unfoldable pub front_from : ℕ → List Function → List Instance
front_from i [] = []
front_from i (f ∷ fs) = front_one i f.vars ++ front_from (suc i) fs

-- the cores of functions by their positions
abbrev pub Cores : Type 0
Cores = ℕ → Option (Tree Note)

abbrev pub core_of : Cores → Fun → Option (Tree Note)
core_of cores (User i) = cores i
core_of cores (OfLib lib) = None

-- the nodes of a body, where there is one
abbrev pub nodes_maybe : Option (Tree Note) → List (Tree Note)
nodes_maybe None = []
nodes_maybe (Some core) = nodes_of core

-- what a body mentions, where there is one
abbrev pub mentioned_maybe : List Tau → Option (Tree Note) → List Instance
mentioned_maybe types None = []
mentioned_maybe types (Some core) = mentioned types core

module _ (functions : List Function) (cores : Cores) where
  -- what an instance mentions
  abbrev pub mentioned_by : Instance → List Instance
  mentioned_by x = mentioned_maybe x.types (core_of cores x.fun)

  -- the list behind one more entry, where there is one
  abbrev pub gone_through : List Instance → Option Instance → List Instance
  gone_through known None = known
  gone_through known (Some x) = with_instances known (mentioned_by x)

  -- the list where so many entries have been gone through
  unfoldable pub after : ℕ → List Instance
  after zero = front_from 0 functions
  after (suc n) = gone_through (after n) (slice_get (after n) n)

  -- the list of instances: all of its entries have been gone through
  pub record IsList (list : List Instance) : Type 0 where
    pub steps : ℕ
    pub is : after steps ≡ list
    pub done : length list ≤ steps

-- ---- limits

abbrev pub most_instances : ℕ
most_instances = 4096

abbrev pub most_nodes : ℕ
most_nodes = 1048576

-- the nodes over the bodies of all instances
unfoldable pub nodes_in : Cores → List Instance → ℕ
nodes_in cores [] = 0
nodes_in cores (x ∷ xs) = length (nodes_maybe (core_of cores x.fun)) + nodes_in cores xs

-- the types of these nodes are small enough, where these types stand for the type variables
abbrev pub HasSmallTypes : List Tau → List (Tree Note) → Type 0
HasSmallTypes types nodes = All (λ t. IsTrue (is_small_enough (subst types (type_at t)))) nodes

-- the types of all nodes of all bodies are
abbrev pub HaveSmallTypes : Cores → List Instance → Type 0
HaveSmallTypes cores list = All (λ x. HasSmallTypes x.types (nodes_maybe (core_of cores x.fun))) list
