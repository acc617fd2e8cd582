-- What a table of abstract functions gives on heaps: what its types are there, what its functions do, and the laws of both
-- (docs/LANGUAGE.md, "Abstract functions").
use Rattle.std.specs.Prelude.{◌≡◌, ℕ, ◌+◌, ◌-◌, ◌<◌, ◌≤◌, ◌&&◌, Bool, IsTrue, List, codes, length, Option, Some, None, if◌then◌else◌}
use Rattle.std.specs.List.{range_with_len}
use Rattle.std.specs.Str.{bytes_eq}
use Rattle.cg_base.specs.Types.{Tau, arrow, abs, variant, fields, none, Parts, end, part}
use Rattle.cg_base.specs.declared.kind.Sigil.TheVariants.{R, W}
use Rattle.cg_heap.specs.Calls.{Answer, Out, Does, heap_of}
use Rattle.cg_heap.specs.declared.cell.Scalar.{Scalar}
use Rattle.cg_heap.specs.Reps.{AreApart, HeapWorld, Holds, foot}
use Rattle.cg_heap.specs.Stored.{Stored}
use Rattle.cg_value.specs.Foreign.{Foreign}
use Rattle.cg_value.specs.Values as values
use Rattle.cg_value.specs.Values.{Val, chosen, parts, answers, Vals}

-- Whether an array's elements stand for a value of an abstract type, and what is answered to a call of a function, by its name, with
-- an argument in a store. Nothing is said of a call that isn't answered.
pub record ForeignHeap : Type 0 where
  pub stands : List ℕ → List ℕ → Val → Bool
  pub asked : List ℕ → List Scalar → Stored → Option Answer

-- what abstract types are on heaps, over any instances: elements stand for values that the type holds, of types that are owned
abbrev pub world_over : Foreign → ForeignHeap → (ℕ → Option (Val × Tau)) → HeapWorld
world_over x y instances = record { instance_at = instances; stands = λ name ns v. x.owns name && x.holds name v && y.stands name ns v }

-- A call of a function that the table knows, in a store that holds no cell above its top: the scalars represent a value of what it
-- takes, apart.
pub record IsCall (x : Foreign) (y : ForeignHeap) (instances : ℕ → Option (Val × Tau)) (name : List ℕ) (s : Stored) (us : List Scalar) (from to : Tau) (v : Val) : Type 0 where
  pub known : IsTrue (x.knows name (arrow from to))
  pub holds : Holds (world_over x y instances) (heap_of s) from us v
  pub apart : AreApart (foot (heap_of s) W from us) (foot (heap_of s) R from us)
  pub low : (q : ℕ) → s.top < q → heap_of s q ≡ None

-- how many answers all allocators in a value still have
unfoldable mutual
  pub answers_left : Tau → Val → ℕ
  answers_left (abs name none sigil) (answers bs) = if bytes_eq name (codes "SysState") then length bs else 0
  answers_left (variant ps) (chosen x v) = answers_in_alternative x ps v
  answers_left (fields ps sigil) (parts vs) = answers_in_parts ps vs
  answers_left _ _ = 0

  pub answers_in_alternative : List ℕ → Parts → Val → ℕ
  answers_in_alternative x end v = 0
  answers_in_alternative x (part y t taken ps) v = if bytes_eq x y then answers_left t v else answers_in_alternative x ps v

  pub answers_in_parts : Parts → Vals → ℕ
  answers_in_parts (part x t taken ps) (values.more v vs) = answers_left t v + answers_in_parts ps vs
  answers_in_parts _ _ = 0

-- the most cells that one call may make
abbrev pub most_made : ℕ
most_made = 65536

-- What comes of a call: a step whose result represents this value; the cells that are made stand above the top one behind the
-- other, and are no more than the answers that were taken.
pub record IsAnswered (world : HeapWorld) (s : Stored) (from to : Tau) (us : List Scalar) (v v' : Val) (o : Out) : Type 0 where
  pub does : Does world s from us o to v'
  pub in_order : o.made ≡ range_with_len (s.top + 1) (length o.made)
  pub rises : o.store.top ≡ s.top + length o.made
  pub few : length o.made ≤ most_made
  pub granted : length o.made ≤ answers_left from v - answers_left to v'

-- a call is answered: at this cost, and with what is to come of it
abbrev pub Answers : HeapWorld → Stored → (from to : Tau) → List Scalar → (v v' : Val) → ℕ → Option Answer → Type 0
Answers world s from to us v v' cost None = ⊥
Answers world s from to us v v' cost (Some a) = (a.cost ≡ cost) × IsAnswered world s from to us v v' a.out

-- The laws of a table on heaps. An array's elements stand for one value of a type at most. Each call of a function that is known, on
-- scalars that represent a value that it takes, is answered at that value's cost with what represents its result, and nothing else is
-- answered.
pub record IsLawfulOnHeaps (x : Foreign) (y : ForeignHeap) : Type 0 where
  pub stands_once : (name ns : List ℕ) (v v' : Val) → IsTrue (y.stands name ns v) → IsTrue (y.stands name ns v') → v ≡ v'
  pub is_answered : (instances : ℕ → Option (Val × Tau)) (name : List ℕ) (s : Stored) (us : List Scalar) (from to : Tau) (v : Val)
      → IsCall x y instances name s us from to v
      → Answers (world_over x y instances) s from to us v (x.value name v) (x.cost name v) (y.asked name us s)
  pub is_call : (name : List ℕ) (us : List Scalar) (s : Stored) (a : Answer) → y.asked name us s ≡ Some a
      → (instances : ℕ → Option (Val × Tau)) × (from : Tau) × (to : Tau) × (v : Val) × IsCall x y instances name s us from to v
