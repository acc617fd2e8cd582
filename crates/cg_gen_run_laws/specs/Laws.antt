-- What the functions of the generated source give and cost, and what its heap file holds.
use Rattle.std.specs.Prelude.{◌≡◌, ℕ, ◌+◌, ◌≤◌, [], ◌∷◌, Some}
use Rattle.cg_base.specs.declared.fun.Fun.TheVariants.{User}
use Rattle.cg_heap.specs.declared.cell.Cell.TheVariants.{Slots}
use Rattle.cg_heap.specs.declared.cell.Scalar.TheVariants.{Address, Word}
use Rattle.cg_value.specs.Foreign.{Foreign}
use Rattle.cg_value.specs.Values.{function}
use Rattle.cg_typing.specs.Holds.{kept_at}
use Rattle.cg_eval_def.specs.Evaluation.{evaluation}
use Rattle.cg_eval_def.specs.Foreigns.{table_over}
use Rattle.cg_heaptext_def.specs.HeapText.{HeapText}
use Rattle.cg_gen.specs.Generated.{heap}
use Rattle.cg_gen_def.specs.Kernels.{cell_type, cores, functions}
use Rattle.cg_gen_def.specs.Results.{cell_after, cost_of}

-- The last of so many functions, on the cell of the heap file, gives the cell with its number at cost 12 n - 2, over any table of abstract
-- functions and within any steps that are as many.
abbrev pub EvaluationGives : Type 0
EvaluationGives = (x : Foreign) (before steps : ℕ) → cost_of (before + 1) ≤ steps
    → evaluation (table_over x (functions (before + 1)) (λ i. kept_at (cores (before + 1)) i)) steps (function (User before) []) (cell_after 0)
    ≡ Some (cell_after (before + 1), cost_of (before + 1))

-- The first costs 10.
abbrev pub FirstCosts : Type 0
FirstCosts = cost_of 1 ≡ 10

-- It costs less than the steps of a run where none are given.
abbrev pub StepsAreEnough : Type 0
StepsAreEnough = (n : ℕ) → n ≤ 4096 → cost_of n ≤ 10000000

-- The heap file holds the cell, at address 1, at the type of the argument.
abbrev pub HeapIsHeld : Type 0
HeapIsHeld = HeapText heap cell_type ((1, Slots (Word 0 ∷ Word 0 ∷ [])) ∷ []) (Address 1 ∷ []) (cell_after 0)
