-- What the evaluator answers of a call.
use Rattle.std.specs.Prelude.{◌≡◌, ℕ, Some, Result, Ok, Err}
use Rattle.cg_value.specs.declared.value.Value.{Value}
use Rattle.cg_value.specs.Values.{Val, value_of}
use Rattle.cg_eval.specs.declared.fault.EvalFault.{EvalFault}
use Rattle.cg_eval.specs.declared.fault.EvalFault.TheVariants as fault
use Rattle.cg_eval_machine.specs.declared.halt.Halt.{Halt}
use Rattle.cg_eval_machine.specs.declared.halt.Halt.TheVariants.{StepLimit, Stuck, Memory}
use Rattle.cg_eval_def.specs.Evaluation.{stuck, Table, evaluation, IsSpent, outcome}

-- a call with a budget of n: its value and cost, or why there are none
abbrev pub Exact : Table → ℕ → Val → Val → Result (Value × ℕ) Halt → Type 0
Exact table n f x (Ok r) = evaluation table n f x ≡ Some (value_of r.0, r.1)
Exact table n f x (Err StepLimit) = IsSpent table n f x
Exact table n f x (Err Stuck) = outcome table n f x ≡ stuck
Exact table n f x (Err Memory) = Unit {0}

-- What the evaluator answers of a call with a budget of n: the value and its cost exactly where there are such; that the steps
-- are too few exactly where they are spent, and not where evaluation is stuck; and want of memory is free.
abbrev pub Answers : Table → ℕ → Val → Val → Result (Value × ℕ) EvalFault → Type 0
Answers table n f x (Ok r) = evaluation table n f x ≡ Some (value_of r.0, r.1)
Answers table n f x (Err fault.StepLimit) = IsSpent table n f x
Answers table n f x (Err fault.Memory) = Unit {0}
