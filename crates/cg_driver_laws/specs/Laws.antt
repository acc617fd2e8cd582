-- The C of the instances of a source (docs/LANGUAGE.md, "The C of instances"): it can be printed, and runs to what represents what evaluation
-- gives, from any heap that represents the argument. And what is known of an entry (docs/LANGUAGE.md, "Entries").
use Rattle.std.specs.Prelude.{◌≡◌, ◌⊎◌, ◌↔◌, ℕ, ◌+◌, ◌*◌, ◌^◌, ◌<◌, ◌≤◌, Bool, true, false, IsTrue, List, [], length, map, slice_get, Option, Some, None}
use Rattle.std.specs.List.{list_all}
use Rattle.cg_base.specs.declared.fun.Fun.{Fun}
use Rattle.cg_base.specs.declared.fun.Fun.TheVariants.{User, Lib as OfLib}
use Rattle.cg_base.specs.Types.{Tau, arrow}
use Rattle.cg_lower.specs.Collected.{Copy}
use Rattle.cg_core.specs.Kernels.{Function}
use Rattle.cg_core.specs.Terms.{Note, Tree}
use Rattle.cg_ctree.specs.Spells.{IsPrintable}
use Rattle.cg_ctree.specs.Trees.{Program as CText}
use Rattle.cg_resolve_def.specs.Desugar.{deepest_body}
use Rattle.cg_driver_entry.specs.Entries.{ReachesAbstract}
use Rattle.cg_heap.specs.Calls.{heap_of}
use Rattle.cg_heap.specs.declared.cell.Scalar.{Scalar}
use Rattle.cg_heap.specs.declared.foreign.Link.{Link}
use Rattle.cg_heap.specs.ForeignHeaps.{ForeignHeap, IsLawfulOnHeaps}
use Rattle.cg_heap.specs.Frames.{Frame}
use Rattle.cg_heap.specs.Reps.{HeapWorld, Represents}
use Rattle.cg_heap.specs.Steps.{count}
use Rattle.cg_heap.specs.Stored.{Stored}
use Rattle.cg_inst.specs.Judged.{core_in, functions_in}
use Rattle.cg_inst.specs.Lists.{Cores, IsList}
use Rattle.cg_inst_laws.specs.Laws.{entry_of}
use Rattle.cg_cgen_def.specs.Names.{function_name}
use Rattle.cg_lower.specs.Promises.{CanBePrinted, IsProgramOf, IsSimulated}
use Rattle.cg_eval_def.specs.Evaluation.{evaluation, outcome, stuck}
use Rattle.cg_eval_def.specs.Foreigns.{is_known, table_of}
use Rattle.cg_refine_laws.specs.Laws.{knows_at}
use Rattle.cg_typing.specs.declared.checked.Checked.{Checked}
use Rattle.cg_typing.specs.Holds.{cores_in, trees_in}
use Rattle.cg_typing.specs.Instances.{Entry, Instance, IsIn, nodes_of}
use Rattle.cg_typing.specs.Kept.{AreKept, maybe_core, maybe_tree}
use Rattle.cg_typing.specs.Parts.{given_by, taken_by}
use Rattle.cg_update.specs.Calls.{Program}
use Rattle.cg_update.specs.Among.{is_mention_among}
use Rattle.cg_update_laws.specs.Laws.{world_among}
use Rattle.cg_value.specs.Fits.{fits}
use Rattle.cg_value.specs.Foreign.{Foreign, IsLawful, first_order}
use Rattle.cg_value.specs.NoForeign.{no_foreign}
use Rattle.cg_value.specs.Values.{Val, function}
use Rattle.cg_cmachine_def.specs.Outcomes.{State, done}
use Rattle.cg_cmachine_def.specs.Runs.{Linked, crun, linked_to}

-- the copies of a list of instances
abbrev pub copies_over : List Function → Cores → List Instance → List Copy
copies_over functions cores list = map (λ x. (x, entry_of functions cores x)) list

abbrev pub copies_in : Checked → List Instance → List Copy
copies_in checked list = copies_over (functions_in checked) (core_in checked) list

-- the program of the update semantics that the instances of a source make, over a table of abstract functions
abbrev pub program_over : Foreign → ForeignHeap → List Function → Cores → List Instance → Program
program_over x y functions cores list = record { functions = functions; list = list; entries = map (entry_of functions cores) list; foreign = x; on_heaps = y }

-- a C program with what a table answers to calls of the functions that these links name
abbrev pub linked_over : CText → List Link → ForeignHeap → Linked
linked_over program links y = record { program = program; links = links; asked = y.asked }

-- the C name of each abstract function of a list that a table knows is linked to it
abbrev pub AreLinked : Foreign → List Function → List Instance → List Link → Type 0
AreLinked x functions list links =
    (k i : ℕ) (types : List Tau) (f : Function) → slice_get list k ≡ Some (record { fun = User i; types = types }) → slice_get functions i ≡ Some f → f.body ≡ None → is_known x f ≡ true
    → linked_to (function_name k) links ≡ Some f.at.name

-- None has to be linked, where the table knows no function.
abbrev pub NoneAreLinked : Type 0
NoneAreLinked = (functions : List Function) (list : List Instance) → AreLinked no_foreign functions list []

-- There are such links of any list that isn't longer than 2^64, whatever a table knows.
abbrev pub LinksExist : Type 0
LinksExist = (x : Foreign) (functions : List Function) (list : List Instance) → length list ≤ 2 ^ 64 → (links : List Link) × AreLinked x functions list links

-- What a C function gives on scalars that represent a value, from a heap in which these addresses may be written and read, where evaluation gives
-- this value at this cost: within 32k + 32 steps scalars that represent it, in a heap that is as it was but for what was written or made; what is
-- read was read before, and what was freed has no repeats and is exactly what was written or made and isn't written any more (the paper's
-- refinement, section 3).
pub record GivesRefined (world : HeapWorld) (linked : Linked) (name : List ℕ) (us : List Scalar) (m : Stored) (writes reads : ℕ → ℕ) (t : Tau) (value : Val) (cost : ℕ) : Type 0 where
  pub given : List Scalar
  pub state : State
  pub left : ℕ
  pub ends : crun linked (32 * cost + 32) name us m ≡ done given state left
  pub writes' : ℕ → ℕ
  pub reads' : ℕ → ℕ
  pub represents : Represents world (heap_of state.store) t given value writes' reads'
  pub read_before : (q : ℕ) → 1 ≤ reads' q → 1 ≤ reads q
  pub frame : Frame (heap_of m) writes (heap_of state.store) writes'
  pub freed_once : (q : ℕ) → count q state.freed ≤ 1
  pub freed_exactly : (q : ℕ) → (1 ≤ count q state.freed) ↔ (((1 ≤ writes q) ⊎ (1 ≤ count q state.made)) × (writes' q ≡ 0))

-- Among some places of the list of a program: a body mentions only instances that stand there, and an abstract function is one that the table
-- knows.
module _ (p : Program) (among : ℕ → Bool) where
  abbrev pub reaches_known_by : Fun → Option (Tree Note) → Bool
  reaches_known_by (User i) (Some core) = list_all (is_mention_among p.list among) (nodes_of core)
  reaches_known_by (User i) None = knows_at p (slice_get p.functions i)
  reaches_known_by (OfLib lib) body = true

  -- so it is of all at these places: each of them reaches only abstract functions that the table knows
  abbrev pub ReachKnown : Type 0
  ReachKnown = (k : ℕ) (z : Instance) (e : Entry) → among k ≡ true → slice_get p.list k ≡ Some z → slice_get p.entries k ≡ Some e → IsTrue (reaches_known_by z.fun e.body)

-- Over any lawful table: where evaluation of an instance that reaches only abstract functions that the table knows gives a value, on a value in
-- which all functions do so, the C function of this instance gives what represents it, from any heap that represents the argument and has no cell
-- above its highest address.
abbrev pub SourcesAreRefined : Type 0
SourcesAreRefined =
    (x : Foreign) (y : ForeignHeap) → IsLawful x → IsLawfulOnHeaps x y → (checked : Checked) (list : List Instance) (program : CText)
    → AreKept (functions_in checked) (functions_in checked) (map maybe_core (cores_in checked)) (map maybe_tree (trees_in checked))
    → IsList (functions_in checked) (core_in checked) list → IsSimulated (copies_in checked list) program
    → (links : List Link) → AreLinked x (functions_in checked) list links
    → (among : ℕ → Bool) → ReachKnown (program_over x y (functions_in checked) (core_in checked) list) among
    → (at n k : ℕ) (z : Instance) (core : Tree Note) (us : List Scalar) (m : Stored) (v w : Val) (writes reads : ℕ → ℕ) → slice_get list at ≡ Some z → among at ≡ true
    → (entry_of (functions_in checked) (core_in checked) z).body ≡ Some core
    → Represents (world_among (program_over x y (functions_in checked) (core_in checked) list) among) (heap_of m) (taken_by (entry_of (functions_in checked) (core_in checked) z).ty) us v writes reads
    → ((q : ℕ) → m.top < q → heap_of m q ≡ None)
    → evaluation (table_of x checked) n (function z.fun z.types) v ≡ Some (w, k)
    → GivesRefined (world_among (program_over x y (functions_in checked) (core_in checked) list) among) (linked_over program links y) (function_name at) us m writes reads
    (given_by (entry_of (functions_in checked) (core_in checked) z).ty) w k

-- A function without type variables has an instance in the list of a source.
abbrev pub FunctionsStand : Type 0
FunctionsStand =
    (checked : Checked) (list : List Instance) → IsList (functions_in checked) (core_in checked) list
    → (i : ℕ) (f : Function) → slice_get (functions_in checked) i ≡ Some f → f.vars ≡ [] → IsIn list (record { fun = User i; types = [] })

-- The C program of the instances of a source can be printed, where no body is deeper than 2,048.
abbrev pub SourcesPrint : Type 0
SourcesPrint =
    (checked : Checked) (list : List Instance) (program : CText) → IsList (functions_in checked) (core_in checked) list → deepest_body (functions_in checked) ≤ 2048
    → CanBePrinted (copies_in checked list) program → IsPrintable program

-- The instances of a source make such a program over any table, where the abstract functions that it knows are linked.
abbrev pub SourcesArePrograms : Type 0
SourcesArePrograms =
    (x : Foreign) (y : ForeignHeap) (checked : Checked) (list : List Instance) (links : List Link) → IsList (functions_in checked) (core_in checked) list
    → AreLinked x (functions_in checked) list links
    → ∥ IsProgramOf (program_over x y (functions_in checked) (core_in checked) list) links (copies_in checked list) ∥₁

-- an abstract function that a table doesn't know is this one, or is reached from it by mentions in bodies
pub record ReachesUnknown (x : Foreign) (functions : List Function) (at : ℕ) : Type 0 where
  pub abstract : ReachesAbstract functions at
  pub unknown : is_known x abstract.function ≡ false

-- Over any lawful table, evaluation of a function without type variables that reaches only such abstract functions as the table knows is never
-- stuck, on a value that fits what it takes and has in it no functions but what the table's abstract types hold.
abbrev pub EntriesAreSound : Type 0
EntriesAreSound =
    (x : Foreign) → IsLawful x → (checked : Checked) (i n : ℕ) (f : Function) (a b : Tau) (v : Val) → slice_get (functions_in checked) i ≡ Some f → f.vars ≡ [] → f.ty.ty ≡ arrow a b
    → (ReachesUnknown x (functions_in checked) i → ⊥) → IsTrue (fits (first_order x) a v)
    → outcome (table_of x checked) n (function (User i) []) v ≡ stuck → ⊥

-- Over any lawful table: where evaluation of a function without type variables that has a body and reaches only such abstract functions as the
-- table knows gives a value at cost k, the C function of its instance gives what represents it, within 32k + 32 steps, from any heap that
-- represents the argument over whatever functions and abstract types, and has no cell above its highest address.
abbrev pub EntriesRun : Type 0
EntriesRun =
    (x : Foreign) (y : ForeignHeap) → IsLawful x → IsLawfulOnHeaps x y → (checked : Checked) (list : List Instance) (program : CText)
    → AreKept (functions_in checked) (functions_in checked) (map maybe_core (cores_in checked)) (map maybe_tree (trees_in checked))
    → IsList (functions_in checked) (core_in checked) list → IsSimulated (copies_in checked list) program
    → (links : List Link) → AreLinked x (functions_in checked) list links
    → (at i n k : ℕ) (f : Function) (a b : Tau) (us : List Scalar) (m : Stored) (v w : Val) (writes reads : ℕ → ℕ)
    → slice_get list at ≡ Some (record { fun = User i; types = [] }) → slice_get (functions_in checked) i ≡ Some f → (f.body ≡ None → ⊥) → f.ty.ty ≡ arrow a b
    → (ReachesUnknown x (functions_in checked) i → ⊥)
    → ((world : HeapWorld) → Represents world (heap_of m) a us v writes reads) → ((q : ℕ) → m.top < q → heap_of m q ≡ None)
    → evaluation (table_of x checked) n (function (User i) []) v ≡ Some (w, k)
    → (world : HeapWorld) × GivesRefined world (linked_over program links y) (function_name at) us m writes reads b w k
