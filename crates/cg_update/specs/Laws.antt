-- The laws of the update semantics.
use Rattle.std.specs.Prelude.{◌≡◌, ℕ, ◌<◌, ◌≤◌, suc, List, Some}
use Rattle.cg_heap.specs.declared.cell.Scalar.{Scalar}
use Rattle.cg_heap.specs.Stored.{Stored}
use Rattle.cg_update.specs.Calls.{Program}
use Rattle.cg_update.specs.Outcomes.{starting}
use Rattle.cg_update.specs.Updates.{Result, calls_within, updated}

-- a result is within its budget, and every budget from its cost on gives the same at the same cost
abbrev pub MoreBudget : Type 0
MoreBudget = (p : Program) (n m k : ℕ) (us : List Scalar) (s : Stored) (r : Result)
    → updated p n k us s ≡ Some r → (r.cost ≤ n) × (r.cost ≤ m → updated p m k us s ≡ Some r)

-- calls may be nested deeper than the budget allows them to be, which changes nothing
abbrev pub DepthIsFree : Type 0
DepthIsFree = (p : Program) (depth n k : ℕ) (us : List Scalar) (s : Stored) → n < depth
    → calls_within p depth k us (starting s) n ≡ calls_within p (suc n) k us (starting s) n
