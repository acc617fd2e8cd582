-- The laws of evaluation.
use Rattle.std.specs.Prelude.{◌≡◌, ℕ, ◌≤◌, Some}
use Rattle.cg_value.specs.Values.{Val}
use Rattle.cg_eval_def.specs.Evaluation.{Table, evaluation, fuelled}

-- a result is within its budget, and every budget from its cost on gives the same at the same cost
abbrev pub MoreBudget : Type 0
MoreBudget = (table : Table) (n m k : ℕ) (f x v : Val)
    → evaluation table n f x ≡ Some (v, k) → (k ≤ n) × (k ≤ m → evaluation table m f x ≡ Some (v, k))

-- fuel from the cost on gives the same, and fuel of any amount gives nothing else
abbrev pub FuelIsFree : Type 0
FuelIsFree = (table : Table) (fuel n k : ℕ) (f x v : Val)
    → (evaluation table n f x ≡ Some (v, k) → k ≤ fuel → fuelled table fuel n f x ≡ Some (v, k))
    × (fuelled table fuel n f x ≡ Some (v, k) → evaluation table n f x ≡ Some (v, k))
