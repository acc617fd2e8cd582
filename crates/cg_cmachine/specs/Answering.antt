-- The beginning of a run.
use Rattle.std.specs.Prelude.{◌≡◌, ℕ, ◌+◌, List, [], ◌∷◌, Option, None}
use Rattle.std.specs.Option.{option_map}
use Rattle.cg_cmachine_builtins.specs.declared.changes.Changes.{Changes}
use Rattle.cg_cmachine.specs.declared.answer.Ran.{Ran}
use Rattle.cg_cmachine_running.specs.Machine.{Asked, function_at, program}
use Rattle.cg_cmachine_resolve.specs.Resolutions.{Resolution}
use Rattle.cg_cmachine_def.specs.Layouts.{Layout, size}
use Rattle.cg_cmachine_def.specs.Outcomes.{Outcome}
use Rattle.cg_cmachine_def.specs.Runs.{start}
use Rattle.cg_ctree.specs.Trees.{function_of}
use Rattle.cg_heap.specs.Calls.{Answer}
use Rattle.cg_heap.specs.declared.cell.Scalar.{Scalar}
use Rattle.cg_heap.specs.Stored.{Stored}

-- the slots of all of these
abbrev pub sum_sizes : List Layout → ℕ
sum_sizes [] = 0
sum_sizes (l ∷ ls) = size l + sum_sizes ls

-- no call is answered
abbrev pub none_asked : List ℕ → List Scalar → Stored → Option Answer
none_asked name us m = None

-- a run of the function at a place
abbrev pub started : Resolution → Asked → ℕ → ℕ → List Scalar → Stored → Outcome (List Scalar)
started r asked n f us m = start (program r asked n) n us (record { store = m; made = []; freed = [] }) n (option_map function_of (function_at r f))

-- what is told of a run
pub record Tells (ran : Ran) (value : List Scalar) (steps : ℕ) (c : Changes) : Type 0 where
  pub value_is : ran.value ≡ value
  pub steps_are : ran.steps ≡ steps
  pub made_are : ran.made ≡ c.made.items
  pub freed_are : ran.freed ≡ c.freed.items
