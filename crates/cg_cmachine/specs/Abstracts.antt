-- What comes of a call that a table answers.
use Rattle.std.specs.Prelude.{◌≡◌, ℕ, ◌+◌, ◌<◌, List, ◌++◌, Some, Result, Ok, Err}
use Rattle.cg_cmachine_builtins.specs.declared.changes.Changes.{Changes}
use Rattle.cg_cmachine_def.specs.Layouts.{Layout}
use Rattle.cg_cmachine_def.specs.Operands.{Value, read}
use Rattle.cg_cmachine_def.specs.Outcomes.{Judged, ok, on, State, Outcome, bind, done, lift}
use Rattle.cg_cmachine_def.specs.Runs.{answered, has_size}
use Rattle.cg_cmachine_values.specs.declared.fault.RunFault.{RunFault}
use Rattle.cg_cmachine_values.specs.declared.fault.RunFault.TheVariants.{Stuck, Budget, Memory}
use Rattle.cg_heap.specs.Calls.{Answer}
use Rattle.cg_heap.specs.declared.cell.Scalar.{Scalar}
use Rattle.cg_heap.specs.Stored.{Stored}

-- what was made and freed is added
abbrev pub IsAdded : Answer → Changes → Changes → Type 0
IsAdded a c c' = (c'.made.items ≡ c.made.items ++ a.out.made) × (c'.freed.items ≡ c.freed.items ++ a.out.freed)

abbrev pub Answers : Answer → Stored → Changes → ℕ → Stored → Changes → Result (List Scalar × ℕ) RunFault → Type 0
Answers a m c left m' c' (Ok e) = (e.0 ≡ a.out.result) × (a.cost + e.1 ≡ left) × (m' ≡ a.out.store) × IsAdded a c c'
Answers a m c left m' c' (Err (Stuck why)) = ⊥
Answers a m c left m' c' (Err Budget) = (left < a.cost) × (m' ≡ m)
Answers a m c left m' c' (Err Memory) = Unit {0}

-- the value of a type that all of these scalars are
abbrev pub read_whole : Layout → List Scalar → Judged Value
read_whole l us = on (has_size l us) (λ _. read l us)

-- the value of a type that a call with this answer gives, where its arguments are of its parameters' types
abbrev pub answered_value : Layout → State → ℕ → Answer → Outcome Value
answered_value l s left a = bind (answered (ok tt) l s left (Some a)) (λ us after rest. lift after.store (read l us) (λ v. done v after rest))
