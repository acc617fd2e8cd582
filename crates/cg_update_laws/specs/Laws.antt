-- What functions and abstract types are on heaps, over the instances of a program, and what its iterators call (docs/LANGUAGE.md, "Update semantics").
use Rattle.std.specs.Prelude.{◌≡◌, ℕ, Bool, false, ◌||◌, IsTrue, List, Option, Some, None, codes, slice_get, if◌then◌else◌}
use Rattle.std.specs.Str.{bytes_eq}
use Rattle.cg_base.specs.declared.kind.Sigil.TheVariants.{U}
use Rattle.cg_base.specs.Types.{Tau, arrow, fields, part}
use Rattle.cg_heap.specs.declared.cell.Scalar.{Scalar}
use Rattle.cg_heap.specs.ForeignHeaps.{world_over}
use Rattle.cg_heap.specs.Reps.{HeapWorld}
use Rattle.cg_typing.specs.Instances.{AreInstances, Entry, Instance}
use Rattle.cg_update.specs.Calls.{Program, types_of}
use Rattle.cg_update.specs.Outcomes.{State}
use Rattle.cg_update.specs.Updates.{Calls, calls_source}
use Rattle.cg_value.specs.Values.{Val, function}

-- ---- values of functions

-- an instance as a value, with its type
abbrev pub value_of : Option Instance → Option Entry → Option (Val × Tau)
value_of (Some x) (Some e) = Some (function x.fun x.types, e.ty)
value_of x e = None

-- the instance at a place, where this is among some
abbrev pub instances_among : Program → (ℕ → Bool) → ℕ → Option (Val × Tau)
instances_among p among k = if among k then value_of (slice_get p.list k) (slice_get p.entries k) else None

-- what functions and abstract types are on heaps, where functions stand among some places
abbrev pub world_among : Program → (ℕ → Bool) → HeapWorld
world_among p among = world_over p.foreign p.on_heaps (instances_among p among)

-- ---- what iterators call

-- what an iterator's function takes: the element or what is carried comes first
abbrev pub is_turn : Tau → Bool
is_turn (fields (part name t taken ps) U) = bytes_eq name (codes "elem") || bytes_eq name (codes "acc")
is_turn t = false

-- Where an instance of a list takes such a turn, it is of the source: so what an iterator calls is a call of that instance, and no other case
-- comes up.
abbrev pub IteratorsCallSources : Type 0
IteratorsCallSources =
    (p : Program) → AreInstances p.functions p.list p.entries → (calls : Calls) (k : ℕ) (a b : Tau) → types_of p k ≡ Some (arrow a b) → IsTrue (is_turn a)
    → (us : List Scalar) (s : State) (left : ℕ) → calls_source p calls (slice_get p.list k) k us s left ≡ calls k us s left
