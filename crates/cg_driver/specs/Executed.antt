-- What the two runs of a function give, as the code has them.
use Rattle.std.specs.Prelude.{◌≡◌, ℕ, IsTrue, List, [], map, Option, Some}
use Rattle.cg_base.specs.declared.fun.Fun.TheVariants.{User}
use Rattle.cg_base.specs.Types.{Tau}
use Rattle.cg_lower.specs.Collected.{Copy}
use Rattle.cg_core.specs.Kernels.{Function}
use Rattle.cg_core.specs.Terms.{Note, Tree}
use Rattle.cg_ctree.specs.Spells.{CSpells}
use Rattle.cg_ctree.specs.Trees.{Program}
use Rattle.cg_cgen_def.specs.Names.{function_name}
use Rattle.cg_cmachine_def.specs.Runs.{Linked}
use Rattle.cg_driver_laws.specs.Laws.{GivesRefined}
use Rattle.cg_eval_def.specs.Evaluation.{evaluation}
use Rattle.cg_eval_def.specs.Foreigns.{table_of}
use Rattle.cg_base.specs.declared.kind.Sigil.TheVariants.{W}
use Rattle.cg_cmachine.specs.declared.answer.Ran.{Ran}
use Rattle.cg_heap.specs.Calls.{heap_of}
use Rattle.cg_heap.specs.FirstOrder.{is_first_order}
use Rattle.cg_heap.specs.Reps.{HeapWorld, Holds, Represents, foot}
use Rattle.cg_heap.specs.Steps.{count}
use Rattle.cg_heaptext_contents.specs.declared.placing.Placed.{Placed}
use Rattle.cg_heaptext_contents.specs.Placings.{pair_of}
use Rattle.cg_heaptext_def.specs.Footprints.{held_in}
use Rattle.cg_heaptext_def.specs.Placed.{CanBePlaced}
use Rattle.cg_typing.specs.Instances.{Instance}
use Rattle.cg_driver.specs.Built.{CanRun}
use Rattle.cg_heap.specs.declared.cell.Scalar.{Scalar}
use Rattle.cg_heap.specs.Stored.{Stored}
use Rattle.cg_typing.specs.declared.checked.Checked.{Checked}
use Rattle.cg_typing.specs.Holds.{cores_in}
use Rattle.cg_typing.specs.Kept.{maybe_core}
use Rattle.cg_value.specs.Values.{Val, function, value_of}
use Rattle.cg_driver_steps.specs.declared.status.Status.{Status}
use Rattle.cg_driver_steps.specs.declared.status.Status.TheVariants.{Done, StepLimit}
use Rattle.cg_driver_lines.specs.declared.machined.Machined.{Machined}
use Rattle.cg_driver.specs.Externs.{Extern, linked_in}
use Rattle.cg_driver.specs.Found.{Argument}
use Rattle.cg_driver.specs.Instanced.{emitted}
use Rattle.cg_driver_lines.specs.Lines.{step_limit_line}
use Rattle.cg_driver.specs.Run.{budget, Evaluates, RunsOut, RunsTo, IsReport}

-- the cores of a checked source
abbrev pub cores_of : Checked → List (Option (Tree Note))
cores_of checked = map maybe_core (cores_in checked)

-- evaluation over a table of abstract functions gives this value at this cost, within the steps
abbrev pub Gives : Extern → Checked → ℕ → Val → ℕ → Val → ℕ → Type 0
Gives table checked at arg steps value cost = evaluation (table_of table.values checked) steps (function (User at) []) arg ≡ Some (value, cost)

-- a linked program gives what represents this value, where evaluation gives it at this cost
pub record GivesAlike (linked : Linked) (name : List ℕ) (us : List Scalar) (m : Stored) (t : Tau) (value : Val) (cost : ℕ) : Type 0 where
  pub world : HeapWorld
  pub writes : ℕ → ℕ
  pub reads : ℕ → ℕ
  pub gives : GivesRefined world linked name us m writes reads t value cost

-- what was read out of a store is what the scalars of a run represent there, and these are the cells that may be written through them
pub record ReadsBack (m : Stored) (t : Tau) (ran : Ran) (r : Machined) : Type 0 where
  pub steps : r.steps ≡ ran.steps
  pub made : r.made ≡ ran.made
  pub freed : r.freed ≡ ran.freed
  pub is : (world : HeapWorld) (v : Val) → Holds world (heap_of m) t ran.value v → IsTrue (is_first_order t) → value_of r.value ≡ v
  pub are_kept : (q : ℕ) → count q r.kept ≡ foot (heap_of m) W t ran.value q

-- what a run gave, within a budget
abbrev pub Runs : Linked → List ℕ → List Scalar → Stored → ℕ → Tau → Val → Machined → Type 0
Runs linked name us m most t value r =
    RunsTo linked name us m most t (value_of r.value) r.steps r.made r.freed r.kept × (value_of r.value ≡ value)

-- the run of the C text ends within its budget with what evaluation gave
pub record Machines (table : Extern) (functions : List Function) (copies : List Copy) (place : ℕ) (t : Tau) (us : List Scalar) (m : Stored) (value : Val) (cost : ℕ) (r : Machined) : Type 0 where
  pub program : Program
  pub spelled : CSpells (emitted copies) program
  pub runs : Runs (linked_in table functions copies program) (function_name place) us m (budget cost) t value r

-- an entry can be run on what a heap file holds: the cells and scalars represent the value at its type, whatever functions and abstract types there
-- are, and can be placed
pub record IsReady (checked : Checked) (list : List Instance) (at place : ℕ) (argument result : Tau) (a : Argument) : Type 0 where
  pub can : CanRun checked list at place argument result
  pub writes : ℕ → ℕ
  pub reads : ℕ → ℕ
  pub represents : (world : HeapWorld) → Represents world (held_in a.cells) argument a.scalars a.value writes reads
  pub placeable : CanBePlaced a.cells

-- cells, scalars and a value as what a heap file holds
abbrev pub the_argument : List Placed → List Scalar → Val → Argument
the_argument cells us v = record { cells = map pair_of cells; scalars = us; value = v }

-- what both runs say
abbrev pub Executes : Extern → List Function → List Copy → ℕ → Tau → Argument → ℕ → Status → List ℕ → Type 0
Executes table functions copies at t a steps Done text =
    (value : Val) × (cost : ℕ) × Evaluates table.values functions at a.value steps value cost × IsReport table functions copies at t a value cost text
Executes table functions copies at t a steps StepLimit text = RunsOut table.values functions at a.value steps × (text ≡ step_limit_line steps)
Executes table functions copies at t a steps _ text = ⊥
