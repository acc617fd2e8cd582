-- What a run answers (docs/LANGUAGE.md, "The C subset").
use Rattle.std.specs.Prelude.{◌≡◌, ℕ, ◌+◌, Result, Ok, Err, List}
use Rattle.cg_cmachine_def.specs.Outcomes.{Outcome, done, stuck, needs}
use Rattle.cg_cmachine.specs.declared.answer.Ran.{Ran}
use Rattle.cg_cmachine_values.specs.declared.fault.RunFault.{RunFault}
use Rattle.cg_cmachine_values.specs.declared.fault.RunFault.TheVariants.{Stuck, Budget, Memory}
use Rattle.cg_heap.specs.declared.cell.Scalar.{Scalar}
use Rattle.cg_heap.specs.Stored.{Stored}

-- what a run of at most n steps gave, and the store that it left
pub record EndsAs (o : Outcome (List Scalar)) (n : ℕ) (store : Stored) (ran : Ran) : Type 0 where
  pub left : ℕ
  pub steps : ran.steps + left ≡ n
  pub ends : o ≡ done ran.value (record { store = store; made = ran.made; freed = ran.freed }) left

-- Where a run has a meaning: its value, its steps, what it made and freed and its store, exactly where it ends; why it is stuck, with the
-- store, exactly where it is; `Budget`, with the store, exactly where it needs more steps; and want of memory is free.
abbrev pub Runs : Outcome (List Scalar) → ℕ → Stored → Result Ran RunFault → Type 0
Runs o n store (Ok ran) = EndsAs o n store ran
Runs o n store (Err (Stuck why)) = o ≡ stuck why store
Runs o n store (Err Budget) = o ≡ needs store
Runs o n store (Err Memory) = Unit {0}
