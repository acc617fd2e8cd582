-- What a run of an entry on a heap file says, and why (docs/LANGUAGE.md, "Commands"). The definitions speak of any table of abstract functions.
use Rattle.std.specs.Prelude.{◌≡◌, ℕ, ◌+◌, ◌*◌, List, [], Option, Some}
use Rattle.cg_base.specs.declared.fun.Fun.TheVariants.{User}
use Rattle.cg_base.specs.Types.{Tau}
use Rattle.cg_core.specs.Kernels.{Function}
use Rattle.cg_core.specs.Terms.{Note, Tree}
use Rattle.cg_ctree.specs.Spells.{CSpells}
use Rattle.cg_ctree.specs.Trees.{Program}
use Rattle.cg_lower.specs.Collected.{Copy}
use Rattle.cg_cgen_def.specs.Names.{function_name}
use Rattle.cg_cmachine_def.specs.Outcomes.{State, done}
use Rattle.cg_cmachine_def.specs.Runs.{Linked, crun}
use Rattle.cg_eval_def.specs.Evaluation.{Table, evaluation, IsSpent}
use Rattle.cg_eval_def.specs.Foreigns.{table_over}
use Rattle.cg_heap.specs.Calls.{heap_of}
use Rattle.cg_heap.specs.declared.cell.Scalar.{Scalar}
use Rattle.cg_heap.specs.Reps.{HeapWorld, Represents}
use Rattle.cg_heap.specs.Stored.{Stored}
use Rattle.cg_heap.specs.Steps.{count}
use Rattle.cg_value.specs.Foreign.{Foreign}
use Rattle.cg_value.specs.Values.{Val, function}
use Rattle.cg_driver.specs.Entered.{entry_place}
use Rattle.cg_driver.specs.Externs.{Extern, linked_in}
use Rattle.cg_driver.specs.Found.{Argument}
use Rattle.cg_driver.specs.Instanced.{AreCores, bodies_in, emitted}
use Rattle.cg_driver_lines.specs.Lines.{report}
use Rattle.cg_driver_text.specs.Filled.{filled, no_cells}

-- the functions of a source, by their cores, over a table of abstract functions
abbrev pub table_in : Foreign → List Function → List (Option (Tree Note)) → Table
table_in x functions cores = table_over x functions (bodies_in cores)

-- the steps that the C may take where evaluation costs k
abbrev pub budget : ℕ → ℕ
budget k = 32 * k + 32

-- evaluation of the function at a position gives this value on another, at this cost, which is within the steps
pub record Evaluates (x : Foreign) (functions : List Function) (at : ℕ) (arg : Val) (steps : ℕ) (value : Val) (cost : ℕ) : Type 0 where
  pub cores : List (Option (Tree Note))
  pub derived : AreCores functions cores
  pub gives : evaluation (table_in x functions cores) steps (function (User at) []) arg ≡ Some (value, cost)

-- evaluation runs out of steps: it is not stuck, and gives nothing within them
pub record RunsOut (x : Foreign) (functions : List Function) (at : ℕ) (arg : Val) (steps : ℕ) : Type 0 where
  pub cores : List (Option (Tree Note))
  pub derived : AreCores functions cores
  pub spent : IsSpent (table_in x functions cores) steps (function (User at) []) arg

-- the cells of a heap file in a store, of which the highest address that was ever held is the greatest of theirs, 0 where there are none
abbrev pub begun : Argument → Stored
begun a = filled a.cells no_cells

-- A run of a C function, in at most so many steps, on scalars and from a heap: it ends with scalars that represent this value at a type, and the
-- cells that may be written through them are these.
pub record RunsTo (linked : Linked) (name : List ℕ) (us : List Scalar) (m : Stored) (most : ℕ) (t : Tau) (result : Val) (taken : ℕ) (made freed kept : List ℕ) : Type 0 where
  pub given : List Scalar
  pub state : State
  pub left : ℕ
  pub ends : crun linked most name us m ≡ done given state left
  pub counted : taken + left ≡ most
  pub are_made : made ≡ state.made
  pub are_freed : freed ≡ state.freed
  pub world : HeapWorld
  pub writes : ℕ → ℕ
  pub reads : ℕ → ℕ
  pub represents : Represents world (heap_of state.store) t given result writes reads
  pub are_kept : (q : ℕ) → count q kept ≡ writes q

-- The seven lines of a run of an entry on what a heap file holds, where evaluation gives this value at this cost: the program that the C text of
-- the instances spells, run from the cells of the file, ends within the budget, and its scalars represent a value in its heap, which is that of
-- evaluation. Both go over one table of abstract functions, whose functions the C names of instances are linked to.
pub record IsReport (table : Extern) (functions : List Function) (copies : List Copy) (at : ℕ) (t : Tau) (a : Argument) (value : Val) (cost : ℕ) (text : List ℕ) : Type 0 where
  pub place : ℕ
  pub stands : entry_place copies at ≡ Some place
  pub program : Program
  pub spelled : CSpells (emitted copies) program
  pub result : Val
  pub taken : ℕ
  pub made : List ℕ
  pub freed : List ℕ
  pub kept : List ℕ
  pub runs : RunsTo (linked_in table functions copies program) (function_name place) a.scalars (begun a) (budget cost) t result taken made freed kept
  pub equal : result ≡ value
  pub lines : text ≡ report t value result cost taken made freed kept
