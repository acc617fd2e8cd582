-- What a graph reaches from a node. A graph lists, for each node by position, the nodes that it mentions.
use Rattle.std.specs.Prelude.{◌≡◌, ◌↔◌, ◌⊎◌, ℕ, ◌<◌, Bool, false, IsTrue, List, length, get_or}
use Rattle.cg_graphs.specs.Circles.{Reaches}

-- a node is this one, or is reached from it by one mention or more
abbrev pub IsReached : List (List ℕ) → ℕ → ℕ → Type 0
IsReached edges from i = (i ≡ from) ⊎ Reaches edges from i

-- one mark for each node, true exactly where the node is this one or is reached from it
pub record AreReached (edges : List (List ℕ)) (from : ℕ) (marks : List Bool) : Type 0 where
  pub size : length marks ≡ length edges
  pub marked : (i : ℕ) → i < length edges → IsTrue (get_or marks i false) ↔ IsReached edges from i
