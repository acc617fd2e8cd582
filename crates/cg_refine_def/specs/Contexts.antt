-- Variables whose scalars represent their values in a heap, and what they reach (the paper's value typing of environments, section 3).
use Rattle.std.specs.Prelude.{◌≡◌, ℕ, ◌+◌, ◌≤◌, Option, Some, None, List, [], ◌∷◌}
use Rattle.cg_base.specs.declared.kind.Sigil.{Sigil}
use Rattle.cg_base.specs.Types.{Tau}
use Rattle.cg_heap.specs.declared.cell.Scalar.{Scalar}
use Rattle.cg_heap.specs.Reps.{Heap, HeapWorld, Holds, foot}
use Rattle.cg_typing.specs.Contexts.{Context}
use Rattle.cg_value.specs.Values.{Val}

module _ (world : HeapWorld) (h : Heap) where
  -- an entry that is gone asks nothing; a present one, that its scalars represent its value
  abbrev pub HoldsEntry : Option Tau → List Scalar → Val → Type 0
  HoldsEntry None us v = Unit {0}
  HoldsEntry (Some t) us v = Holds world h t us v

  -- as many lists of scalars and values as entries, of which each holds
  abbrev pub HoldsContext : Context → List (List Scalar) → List Val → Type 0
  HoldsContext [] [] [] = Unit {0}
  HoldsContext (o ∷ g) (us ∷ uss) (v ∷ vs) = HoldsEntry o us v × HoldsContext g uss vs
  HoldsContext g uss vs = ⊥

-- how often an address is reached at a sigil by the entries that are present
module _ (h : Heap) (m : Sigil) where
  abbrev pub entry_foot : Option Tau → List Scalar → ℕ → ℕ
  entry_foot None us q = 0
  entry_foot (Some t) us q = foot h m t us q

  abbrev pub context_foot : Context → List (List Scalar) → ℕ → ℕ
  context_foot [] uss q = 0
  context_foot (o ∷ g) [] q = 0
  context_foot (o ∷ g) (us ∷ uss) q = entry_foot o us q + context_foot g uss q

-- What may be written and read, divided between a part that is done first and the rest. What the rest writes may be read first: so it is of
-- entries that are seen.
pub record Divided (writes reads writes1 reads1 writes2 reads2 : ℕ → ℕ) : Type 0 where
  pub sum : (q : ℕ) → writes1 q + writes2 q ≡ writes q
  pub rest : (q : ℕ) → reads2 q ≤ reads q
  pub seen : (q : ℕ) → reads1 q ≤ reads q + writes2 q
