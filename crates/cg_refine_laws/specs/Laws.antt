-- Evaluation of calls is refined by their updates, on any heap that represents the argument.
use Rattle.std.specs.Prelude.{◌≡◌, ℕ, Bool, true, false, IsTrue, List, [], length, Option, Some, None, slice_get}
use Rattle.std.specs.List.{list_all}
use Rattle.cg_base.specs.declared.fun.Fun.{Fun}
use Rattle.cg_base.specs.declared.fun.Fun.TheVariants.{User, Lib as OfLib}
use Rattle.cg_base.specs.declared.fun.Lib.{Lib}
use Rattle.cg_base.specs.declared.fun.Lib.TheVariants.{Map, Fold}
use Rattle.cg_base.specs.declared.kind.Sigil.TheVariants.{R, W}
use Rattle.cg_base.specs.Types.{Tau, arrow}
use Rattle.cg_core.specs.Kernels.{Function}
use Rattle.cg_core.specs.Terms.{Note, Tree}
use Rattle.cg_eval_def.specs.Evaluation as values
use Rattle.cg_eval_def.specs.Evaluation.{Run, Table, evaluation}
use Rattle.cg_eval_def.specs.Foreigns.{is_known}
use Rattle.cg_eval_operations.specs.Iterators.{is_iterator}
use Rattle.cg_heap.specs.Calls.{heap_of}
use Rattle.cg_heap.specs.declared.cell.Scalar.{Scalar}
use Rattle.cg_heap.specs.ForeignHeaps.{IsLawfulOnHeaps}
use Rattle.cg_heap.specs.Reps.{HeapWorld, Holds, first_number, foot}
use Rattle.cg_heap.specs.Steps.{IsFine, Step, side}
use Rattle.cg_heap.specs.Stored.{Stored}
use Rattle.cg_heap_laws.specs.LibraryLaws.{is_argument}
use Rattle.cg_kinds.specs.Kinds.{is_word}
use Rattle.cg_lib_value.specs.Library.{library_cost, library_value}
use Rattle.cg_mono_laws.specs.Laws.{copies_table}
use Rattle.cg_refine.specs.Laws.{TypesAreKnown}
use Rattle.cg_refine_def.specs.Refined.{IsRefined, is_clear_node, side_of}
use Rattle.cg_typing.specs.Functions.{are_good_arguments, asked_by, takes_as_many}
use Rattle.cg_typing.specs.Instances.{AreInstances, Entry, Instance, as_arguments, nodes_of}
use Rattle.cg_typing.specs.Library.{given, library_type}
use Rattle.cg_typing.specs.Parts.{given_by, taken_by}
use Rattle.cg_update.specs.Calls.{Program, abstract, library}
use Rattle.cg_update.specs.Outcomes.{State}
use Rattle.cg_update.specs.Updates as updates
use Rattle.cg_update.specs.Updates.{Calls, Result, calls_source, updated}
use Rattle.cg_update_laws.specs.Laws.{is_turn, world_among}
use Rattle.cg_value.specs.Foreign.{IsLawful}
use Rattle.cg_value.specs.Values.{Val, function}

-- ---- functions without a body

-- the functions of the library that take no function, at types that typing lets through
abbrev pub LibraryIsRefined : Type 0
LibraryIsRefined =
    (world : HeapWorld) (lib : Lib) (types : List Tau) (s : State) (us : List Scalar) (v : Val) → IsTrue (is_argument lib (given types 0))
    → Holds world (heap_of s.store) (taken_by (library_type lib types)) us v
    → IsFine (side_of s (foot (heap_of s.store) W (taken_by (library_type lib types)) us) (foot (heap_of s.store) R (taken_by (library_type lib types)) us))
    → (left : ℕ) → IsRefined world s (foot (heap_of s.store) W (taken_by (library_type lib types)) us) (foot (heap_of s.store) R (taken_by (library_type lib types)) us) (given_by (library_type lib types))
    (values.pay_for (library_cost lib v) left (λ rest. values.gives (library_value lib types v) rest)) (library lib types us s left)

-- a function of the source that the table of a program knows, from and to types that it is known at
abbrev pub KnownFunctionsAreRefined : Type 0
KnownFunctionsAreRefined =
    (p : Program) (among : ℕ → Bool) → IsLawful p.foreign → IsLawfulOnHeaps p.foreign p.on_heaps
    → TypesAreKnown p among (world_among p among)
    → (i : ℕ) (f : Function) (a b : Tau) (s : State) (us : List Scalar) (v : Val) → slice_get p.functions i ≡ Some f → IsTrue (is_known p.foreign f) → f.ty.ty ≡ arrow a b
    → Holds (world_among p among) (heap_of s.store) a us v → IsFine (side_of s (foot (heap_of s.store) W a us) (foot (heap_of s.store) R a us))
    → (left : ℕ) → IsRefined (world_among p among) s (foot (heap_of s.store) W a us) (foot (heap_of s.store) R a us) b
    (values.pay_for (p.foreign.cost f.at.name v) left (λ rest. values.gives (p.foreign.value f.at.name v) rest)) (abstract p b i us s left)

-- ---- iterators

module _ (p : Program) (world : HeapWorld) where
  -- what an iterator calls is refined
  abbrev pub TurnsRefine : Table → Run → Calls → Type 0
  TurnsRefine table run calls =
      (a b : Tau) (us ws : List Scalar) (f v : Val) (s : State) → IsTrue (is_turn a) → Holds world (heap_of s.store) (arrow a b) us f → Holds world (heap_of s.store) a ws v
      → IsFine (side_of s (foot (heap_of s.store) W a ws) (foot (heap_of s.store) R a ws))
      → (left : ℕ) → IsRefined world s (foot (heap_of s.store) W a ws) (foot (heap_of s.store) R a ws) b
      (values.call table run f v left) (calls_source p calls (slice_get p.list (first_number us)) (first_number us) ws s left)

-- what an iterator goes over is an array of words
abbrev pub is_over : Lib → List Tau → Bool
is_over Map types = is_word (given types 0)
is_over Fold types = is_word (given types 0)
is_over lib types = true

-- iterators, where what they call is refined
abbrev pub IteratorsAreRefined : Type 0
IteratorsAreRefined =
    (p : Program) (world : HeapWorld) (table : Table) (run : Run) (calls : Calls) → TurnsRefine p world table run calls
    → (lib : Lib) (types : List Tau) → is_iterator lib ≡ true → IsTrue (is_over lib types)
    → (s : State) (us : List Scalar) (v : Val) → Holds world (heap_of s.store) (taken_by (library_type lib types)) us v
    → IsFine (side_of s (foot (heap_of s.store) W (taken_by (library_type lib types)) us) (foot (heap_of s.store) R (taken_by (library_type lib types)) us))
    → (left : ℕ) → IsRefined world s (foot (heap_of s.store) W (taken_by (library_type lib types)) us) (foot (heap_of s.store) R (taken_by (library_type lib types)) us) (given_by (library_type lib types))
    (values.iterated table run lib v left) (updates.iterated p calls lib types (record { ty = taken_by (library_type lib types); scalars = us }) s left)

-- ---- instances

-- the table of a program knows the function at a place of its source
abbrev pub knows_at : Program → Option Function → Bool
knows_at p None = false
knows_at p (Some f) = is_known p.foreign f

-- Among some places of a list: a body mentions only instances that stand there, and no two alternatives of a variant in it have one name; an
-- abstract function is known; and a function of the library has no body.
module _ (p : Program) (among : ℕ → Bool) where
  abbrev pub is_refinable_by : Fun → Option (Tree Note) → Bool
  is_refinable_by (User i) (Some core) = list_all (is_clear_node p.list among) (nodes_of core)
  is_refinable_by (User i) None = knows_at p (slice_get p.functions i)
  is_refinable_by (OfLib lib) None = true
  is_refinable_by (OfLib lib) (Some core) = false

  -- So is each instance at these places, of a list in which none stands twice and each is at types that its function takes, over a lawful table.
  pub record AreRefinable : Type 0 where
    pub instances : AreInstances p.functions p.list p.entries
    pub apart : (i j : ℕ) (x : Instance) → slice_get p.list i ≡ Some x → slice_get p.list j ≡ Some x → i ≡ j
    pub many : (k : ℕ) (x : Instance) → slice_get p.list k ≡ Some x → IsTrue (takes_as_many p.functions x.fun (length x.types))
    pub good : (k : ℕ) (x : Instance) → slice_get p.list k ≡ Some x → IsTrue (are_good_arguments [] (asked_by p.functions x.fun) (as_arguments x.types))
    pub lawful : IsLawful p.foreign
    pub on_heaps : IsLawfulOnHeaps p.foreign p.on_heaps
    pub refinable : (k : ℕ) (x : Instance) (e : Entry) → among k ≡ true → slice_get p.list k ≡ Some x → slice_get p.entries k ≡ Some e → IsTrue (is_refinable_by x.fun e.body)

-- An instance is updated to what it is evaluated to: at the same cost, by a step from what the argument reaches to what the result reaches.
pub record IsUpdatedTo (p : Program) (among : ℕ → Bool) (n k : ℕ) (us : List Scalar) (m : Stored) (a b : Tau) (v : Val) (cost : ℕ) : Type 0 where
  pub result : Result
  pub is : updated p n k us m ≡ Some result
  pub same_cost : result.cost ≡ cost
  pub holds : Holds (world_among p among) (heap_of result.state.store) b result.value v
  pub step : Step (side (heap_of m) m.top (foot (heap_of m) W a us) (foot (heap_of m) R a us)) result.state.made result.state.freed
      (side (heap_of result.state.store) result.state.store.top (foot (heap_of result.state.store) W b result.value) (foot (heap_of result.state.store) R b result.value))

-- where evaluation of an instance gives a value over the copies of the list, an update does, on any heap that represents the argument
abbrev pub InstancesAreRefined : Type 0
InstancesAreRefined =
    (p : Program) (among : ℕ → Bool) → AreRefinable p among
    → (n k cost : ℕ) (x : Instance) (e : Entry) (us : List Scalar) (m : Stored) (v w : Val)
    → slice_get p.list k ≡ Some x → slice_get p.entries k ≡ Some e → among k ≡ true → Holds (world_among p among) (heap_of m) (taken_by e.ty) us v
    → IsFine (side (heap_of m) m.top (foot (heap_of m) W (taken_by e.ty) us) (foot (heap_of m) R (taken_by e.ty) us))
    → evaluation (copies_table p.foreign p.functions p.list p.entries) n (function x.fun x.types) v ≡ Some (w, cost)
    → IsUpdatedTo p among n k us m (taken_by e.ty) (given_by e.ty) w cost
