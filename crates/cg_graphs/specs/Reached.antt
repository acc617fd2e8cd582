-- A search for what is reached: which nodes are marked, and those whose mentions are still to be followed.
use Rattle.std.specs.Prelude.{◌≡◌, ℕ, Bool, true, false, List, [], ◌∷◌, ◌++◌, length, get_or, set, if◌then◌else◌, ◌⊎◌}
use Rattle.std.specs.List.{Contains}
use Rattle.cg_graphs.specs.Circles.{Mentions, Reaches}

pub record Reached : Type 0 where
  pub marks : List Bool
  pub work : List ℕ

abbrev pub reached : List Bool → List ℕ → Reached
reached marks work = record { marks = marks; work = work }

-- one node more
unfoldable pub mark : Reached → ℕ → Reached
mark r j = if get_or r.marks j true then r else reached (set r.marks j true) (r.work ++ j ∷ [])

-- and each of these
unfoldable pub mark_all : Reached → List ℕ → Reached
mark_all r [] = r
mark_all r (j ∷ js) = mark_all (mark r j) js

-- a node is marked
abbrev pub IsMarked : Reached → ℕ → Type 0
IsMarked r k = get_or r.marks k false ≡ true

-- a node is marked, or is none
abbrev pub IsClosed : Reached → ℕ → Type 0
IsClosed r k = get_or r.marks k true ≡ true

-- what is marked is reached, and what it mentions is marked or still to be followed
pub record IsSearch (edges : List (List ℕ)) (from : ℕ) (r : Reached) : Type 0 where
  pub size : length r.marks ≡ length edges
  pub sound : (k : ℕ) → IsMarked r k → Reaches edges from k
  pub listed : (k : ℕ) → Contains r.work k → IsMarked r k
  pub started : (k : ℕ) → Mentions edges from k → IsClosed r k
  pub followed : (v : ℕ) → IsMarked r v → Contains r.work v ⊎ ((k : ℕ) → Mentions edges v k → IsClosed r k)
