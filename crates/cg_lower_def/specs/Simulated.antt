-- What the C of a list of instances promises (docs/LANGUAGE.md, "The C of instances").
use Rattle.std.specs.Prelude.{◌≡◌, ℕ, ◌+◌, ◌*◌, ◌^◌, ◌<◌, ◌≤◌, true, List, length, slice_get, Some, None, ◌∷◌, Contains}
use Rattle.std.specs.List.{AllByRecursion, list_any}
use Rattle.cg_base.specs.declared.fun.Fun.TheVariants.{User, Lib as OfLib}
use Rattle.cg_base.specs.declared.fun.Lib.{Lib}
use Rattle.cg_base.specs.Same.{same_type}
use Rattle.cg_base.specs.Types.{Tau}
use Rattle.cg_core.specs.Kernels.{Function}
use Rattle.cg_core.specs.Terms.{Note, Tree, term, fun, app}
use Rattle.cg_cmachine_def.specs.Outcomes as runs
use Rattle.cg_cmachine_def.specs.Outcomes.{done}
use Rattle.cg_cmachine_def.specs.Runs.{Linked, crun, linked_to}
use Rattle.cg_ctree.specs.declared.tree.CStruct.{CStruct}
use Rattle.cg_heap.specs.declared.cell.Scalar.{Scalar}
use Rattle.cg_heap.specs.declared.cell.Scalar.TheVariants.{Word}
use Rattle.cg_heap.specs.declared.foreign.Link.{Link}
use Rattle.cg_heap.specs.Stored.{Stored}
use Rattle.cg_eval_def.specs.Foreigns.{is_known}
use Rattle.cg_eval_operations.specs.Iterators.{is_iterator}
use Rattle.cg_typing.specs.Instances.{AreInstances, Entry, Instance, IsGood, nodes_of}
use Rattle.cg_typing.specs.Parts.{given_by, taken_by}
use Rattle.cg_typing.specs.Rules.{type_at}
use Rattle.cg_update.specs.Calls.{Program, types_of}
use Rattle.cg_update.specs.Machines.{is_machine}
use Rattle.cg_update.specs.Outcomes.{State}
use Rattle.cg_update.specs.Updates.{Result, updated}
use Rattle.cg_lower_def.specs.CTypes.{IsDeclared}
use Rattle.cg_lower_def.specs.Functions.{Item, of_arrow, of_instance, linked_in, low_instance}
use Rattle.cg_lower_def.specs.IteratorCode.{function_type}
use Rattle.cg_cgen_def.specs.Bodies.{Low}
use Rattle.cg_cgen_def.specs.Names.{dispatch_name, function_name}
use Rattle.cg_lower_def.specs.Lowered.{Whole, arrow_number}

-- a state of the update semantics as one of runs
abbrev pub as_run : State → runs.State
as_run s = record { store = s.store; made = s.made; freed = s.freed }

-- ---- what C asks of calls

-- where a function value is called, its arrow type is among those of calls
abbrev pub IsListed : List Tau → Tree Note → Type 0
IsListed arrows (term note (fun f args)) = Unit {0}
IsListed arrows f = list_any (λ u. same_type u (type_at f)) arrows ≡ true

abbrev pub CallsListed : List Tau → Tree Note → Type 0
CallsListed arrows (term note (app f x)) = IsListed arrows f
CallsListed arrows t = Unit {0}

-- The function that an iterator calls, by its type: the structs of what it takes and gives are declared, and the type is among those of calls.
pub record IsCallable (whole : Whole) (ss : List CStruct) (t : Tau) : Type 0 where
  pub argument : IsDeclared whole.numbered ss (taken_by t)
  pub result : IsDeclared whole.numbered ss (given_by t)
  pub listed : list_any (λ u. same_type u t) whole.arrows ≡ true

-- ---- a whole program

-- what holds of the instance at a place: it is one of its function, the arrow types of its calls through function values are listed, the
-- structs of its types and of all nodes are declared, of an iterator those of its function too, and it has fewer than 2^64 locals
pub record IsReady (p : Program) (whole : Whole) (ss : List CStruct) (links : List Link) (k : ℕ) (x : Instance) (e : Entry) : Type 0 where
  pub good : IsGood p.functions x
  pub argument : IsDeclared whole.numbered ss (taken_by e.ty)
  pub result : IsDeclared whole.numbered ss (given_by e.ty)
  pub nodes : (core : Tree Note) → e.body ≡ Some core → AllByRecursion (λ t. IsDeclared whole.numbered ss (type_at t)) (nodes_of core)
  pub listed : (core : Tree Note) → e.body ≡ Some core → AllByRecursion (CallsListed whole.arrows) (nodes_of core)
  pub turned : (lib : Lib) → x.fun ≡ OfLib lib → is_iterator lib ≡ true → IsCallable whole ss (function_type lib x.types)
  pub few : (a : Low) → low_instance whole x e.body ≡ Some a → length a.locals < 2 ^ 64
  pub linked : (i : ℕ) (f : Function) → x.fun ≡ User i → e.body ≡ None → slice_get p.functions i ≡ Some f → is_known p.foreign f ≡ true
      → linked_to (function_name k) links ≡ Some f.at.name

-- an item is an instance of the list, or an arrow type of calls
abbrev pub IsWithin : Program → Whole → Item → Type 0
IsWithin p whole (of_instance k) = k < length p.list
IsWithin p whole (of_arrow j) = j < length whole.arrows

-- a C program is that of these instances, each of which has its function there, in whatever order, and so has each arrow type of calls
pub record IsProgramOf (p : Program) (whole : Whole) (ss : List CStruct) (links : List Link) (order : List Item) : Type 0 where
  pub same_list : whole.list ≡ p.list
  pub instances : AreInstances p.functions p.list p.entries
  pub few : length p.list ≤ 2 ^ 32
  pub few_arrows : length whole.arrows ≤ 2 ^ 32
  pub placed : (k : ℕ) → k < length p.list → Contains order (of_instance k)
  pub arrows_placed : (j : ℕ) → j < length whole.arrows → Contains order (of_arrow j)
  pub only : (i : Item) → Contains order i → IsWithin p whole i
  pub ready : (k : ℕ) (x : Instance) (e : Entry) → slice_get p.list k ≡ Some x → slice_get p.entries k ≡ Some e → IsReady p whole ss links k x e

-- Where an instance with a body gives a result at cost k, its C ends within 32k + 32 steps with the same scalars, heap, and addresses of
-- the cells that were made and freed.
abbrev pub Simulates : Program → Linked → Type 0
Simulates p linked =
    (n k : ℕ) (x : Instance) (e : Entry) (core : Tree Note) (us : List Scalar) (m : Stored) (r : Result)
    → slice_get p.list k ≡ Some x → slice_get p.entries k ≡ Some e → e.body ≡ Some core → updated p n k us m ≡ Some r
    → (left : ℕ) × (crun linked (32 * r.cost + 32) (function_name k) us m ≡ done r.value (as_run r.state) left)

-- So does the C of an instance of the library, of an iterator with all its turns.
abbrev pub SimulatesLibrary : Program → Linked → Type 0
SimulatesLibrary p linked =
    (n k : ℕ) (x : Instance) (e : Entry) (lib : Lib) (us : List Scalar) (m : Stored) (r : Result)
    → slice_get p.list k ≡ Some x → slice_get p.entries k ≡ Some e → x.fun ≡ OfLib lib → e.body ≡ None → updated p n k us m ≡ Some r
    → (left : ℕ) × (crun linked (32 * r.cost + 32) (function_name k) us m ≡ done r.value (as_run r.state) left)

-- And so does the function of an arrow type of calls, on the number of an instance of just that type and its argument: it gives what the
-- function of this instance gives, where that is a machine value of its type.
abbrev pub SimulatesDispatch : Program → Whole → Linked → Type 0
SimulatesDispatch p whole linked =
    (n k : ℕ) (e : Entry) (us : List Scalar) (m : Stored) (r : Result)
    → list_any (λ t. same_type t e.ty) whole.arrows ≡ true → slice_get p.entries k ≡ Some e → updated p n k us m ≡ Some r → is_machine (types_of p) (given_by e.ty) r.value ≡ true
    → (left : ℕ) × (crun linked (32 * r.cost + 32) (dispatch_name (arrow_number whole.arrows e.ty)) (Word k ∷ us) m ≡ done r.value (as_run r.state) left)

-- the C of every list of instances does what the update semantics does
abbrev pub LoweringSimulates : Type 0
LoweringSimulates =
    (p : Program) (whole : Whole) (ss : List CStruct) (links : List Link) (order : List Item) → IsProgramOf p whole ss links order
    → Simulates p (linked_in whole ss p links order)

-- and so do the C of the library's instances, and the functions of arrow types
abbrev pub LibraryIsSimulated : Type 0
LibraryIsSimulated =
    (p : Program) (whole : Whole) (ss : List CStruct) (links : List Link) (order : List Item) → IsProgramOf p whole ss links order
    → SimulatesLibrary p (linked_in whole ss p links order)

abbrev pub DispatchIsSimulated : Type 0
DispatchIsSimulated =
    (p : Program) (whole : Whole) (ss : List CStruct) (links : List Link) (order : List Item) → IsProgramOf p whole ss links order
    → SimulatesDispatch p whole (linked_in whole ss p links order)
