-- What a call gives on a heap, and what it has to be.
use Rattle.std.specs.Prelude.{◌≡◌, ℕ, List}
use Rattle.cg_base.specs.Types.{Tau}
use Rattle.cg_base.specs.declared.kind.Sigil.TheVariants.{R, W}
use Rattle.cg_heap.specs.declared.cell.Scalar.{Scalar}
use Rattle.cg_heap.specs.Reps.{Heap, HeapWorld, Holds, foot}
use Rattle.cg_heap.specs.Steps.{Step, side}
use Rattle.cg_heap.specs.Stored.{Stored, cell_at}
use Rattle.cg_value.specs.Values.{Val}

-- what a call gives: its result, the store behind it, and the addresses of the cells that it made and freed
pub record Out : Type 0 where
  pub result : List Scalar
  pub store : Stored
  pub made : List ℕ
  pub freed : List ℕ

-- what a table answers to a call: what it costs and what it gives
pub record Answer : Type 0 where
  pub cost : ℕ
  pub out : Out

-- a result and what was made and freed are what a call gives, beside the store
abbrev pub IsGiven : List Scalar → List ℕ → List ℕ → Out → Type 0
IsGiven value made freed o = (value ≡ o.result) × (made ≡ o.made) × (freed ≡ o.freed)

abbrev pub heap_of : Stored → Heap
heap_of s = λ q. cell_at s q

-- What comes out of a call with an argument of a type is of another type, represents a value, and is a step.
pub record Does (world : HeapWorld) (s : Stored) (t : Tau) (us : List Scalar) (o : Out) (t' : Tau) (v : Val) : Type 0 where
  pub holds : Holds world (heap_of o.store) t' o.result v
  pub step : Step (side (heap_of s) s.top (foot (heap_of s) W t us) (foot (heap_of s) R t us)) o.made o.freed (side (heap_of o.store) o.store.top (foot (heap_of o.store) W t' o.result) (foot (heap_of o.store) R t' o.result))
