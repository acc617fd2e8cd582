-- What comes of running a part of a program on a heap.
use Rattle.std.specs.Prelude.{ℕ, zero, suc, ◌-◌, List, [], ◌++◌, Option, Some, None, cond, nat_lt, Bool}
use Rattle.cg_heap.specs.Calls.{Out}
use Rattle.cg_heap.specs.declared.cell.Scalar.{Scalar}
use Rattle.cg_heap.specs.Stored.{Stored}

-- a heap, and the addresses of the cells that were made and freed, in order
pub record State : Type 0 where
  pub store : Stored
  pub made : List ℕ
  pub freed : List ℕ

-- the state that a run begins with
abbrev pub starting : Stored → State
starting m = record { store = m; made = []; freed = [] }

-- the same with another heap
abbrev pub with_store : Stored → State → State
with_store m s = record { store = m; made = s.made; freed = s.freed }

-- no result, or scalars, the state behind them, and what is left of the budget
pub data Outcome : Type 0 where
  no_result : Outcome
  gives : List Scalar → State → ℕ → Outcome

-- an outcome, and then the rest
abbrev pub bind : Outcome → (List Scalar → State → ℕ → Outcome) → Outcome
bind no_result rest = no_result
bind (gives us s left) rest = rest us s left

-- what is asked for, where it is there, and then the rest
abbrev pub on : {A : Type 0} → Option A → (A → Outcome) → Outcome
on None rest = no_result
on (Some a) rest = rest a

-- the rest, where this holds
abbrev pub where_true : Bool → Outcome → Outcome
where_true b o = cond b o no_result

-- 1 of the budget, and then the rest
abbrev pub pay : ℕ → (ℕ → Outcome) → Outcome
pay zero rest = no_result
pay (suc left) rest = rest left

-- so much of the budget, and then the rest
abbrev pub pay_for : ℕ → ℕ → (ℕ → Outcome) → Outcome
pay_for cost left rest = cond (nat_lt left cost) no_result (rest (left - cost))

-- what a call gave on the heap of a state
abbrev pub given : Out → State → ℕ → Outcome
given o s left = gives o.result (record { store = o.store; made = s.made ++ o.made; freed = s.freed ++ o.freed }) left
