-- Graphs of mentions, and their circles. A graph lists, for each node by position, the nodes that it mentions.
use Rattle.std.specs.Prelude.{◌≡◌, ℕ, ◌<◌, List, length, slice_get, take, Contains, Some}
use Rattle.std.specs.List.{All}

-- node i mentions node j
pub record Mentions (edges : List (List ℕ)) (i j : ℕ) : Type 0 where
  pub targets : List ℕ
  pub at : slice_get edges i ≡ Some targets
  pub among : Contains targets j

-- node i reaches node j, by one mention or more
pub data Reaches (edges : List (List ℕ)) (i : ℕ) : ℕ → Type 0 where
  mentioned : (j : ℕ) → Mentions edges i j → Reaches edges i j
  onward : (j k : ℕ) → Reaches edges i j → Mentions edges j k → Reaches edges i k

-- the first node that mentions itself, directly or through others
pub record IsFirstCircle (edges : List (List ℕ)) (i : ℕ) : Type 0 where
  pub circle : Reaches edges i i
  pub first : (j : ℕ) → j < i → Reaches edges j j → ⊥

-- no node mentions itself, directly or through others
abbrev pub NoCircle : List (List ℕ) → Type 0
NoCircle edges = (i : ℕ) → Reaches edges i i → ⊥

-- every node that is mentioned is one
abbrev pub Closed : List (List ℕ) → Type 0
Closed edges = All (All (λ j. j < length edges)) edges

-- every node stands in the order once, behind all that it mentions
pub record IsOrder (edges : List (List ℕ)) (order : List ℕ) : Type 0 where
  pub size : length order ≡ length edges
  pub whole : (i : ℕ) → i < length edges → Contains order i
  pub behind : (k i j : ℕ) → slice_get order k ≡ Some i → Mentions edges i j → Contains (take k order) j
