-- What the code's built-ins stand for, and what its calls answer.
use Rattle.std.specs.Prelude.{◌≡◌, ℕ, List, Some, None, Result, Ok, Err}
use Rattle.cg_cmachine_def.specs.BuiltIns as built_ins
use Rattle.cg_cmachine_def.specs.BuiltIns.{Given}
use Rattle.cg_cmachine_def.specs.Outcomes.{State, Outcome, done, stuck, needs, lift}
use Rattle.cg_ctree.specs.declared.why.Why.TheVariants.{KindsDiffer}
use Rattle.cg_cmachine_values.specs.declared.fault.RunFault.{RunFault}
use Rattle.cg_cmachine_values.specs.declared.fault.RunFault.TheVariants.{Stuck, Budget, Memory}
use Rattle.cg_cmachine_values.specs.declared.place.Place.{Place}
use Rattle.cg_cmachine_values.specs.Values.{write_place}
use Rattle.cg_cmachine_builtins.specs.declared.built_in.BuiltIn.{BuiltIn}
use Rattle.cg_cmachine_builtins.specs.declared.built_in.BuiltIn.TheVariants as built_in
use Rattle.cg_cmachine_builtins.specs.declared.changes.Changes.{Changes}
use Rattle.cg_heap.specs.declared.cell.Scalar.{Scalar}
use Rattle.cg_heap.specs.Stored.{Stored}

-- the built-in that one of the code stands for
abbrev pub built_in_of : BuiltIn → built_ins.BuiltIn
built_in_of built_in.NewAlone = built_ins.new_alone
built_in_of built_in.Free = built_ins.free
built_in_of (built_in.Create w) = built_ins.create w
built_in_of (built_in.FreeArray w) = built_ins.free_array w
built_in_of (built_in.LengthOf w) = built_ins.length_of w
built_in_of (built_in.Get w) = built_ins.get w
built_in_of (built_in.Put w) = built_ins.put w

-- a store, with the addresses of the cells that a run made and freed
abbrev pub state_of : Stored → Changes → State
state_of m c = record { store = m; made = c.made.items; freed = c.freed.items }

-- ---- what a call answers, where this is the store behind it

-- what a run gives, and the steps that are left
abbrev pub Ends : {A B : Type 0} → (A → B) → Outcome B → Stored → Changes → Result (A × ℕ) RunFault → Type 0
Ends f o m c (Ok r) = o ≡ done (f r.0) (state_of m c) r.1
Ends f o m c (Err (Stuck why)) = o ≡ stuck why m
Ends f o m c (Err Budget) = o ≡ needs m
Ends f o m c (Err Memory) = Unit {0}

-- the steps that are left, where nobody takes what a built-in gives
abbrev pub Steps : Outcome Given → Stored → Changes → Result ℕ RunFault → Type 0
Steps o m c (Ok left) = (g : Given) × (o ≡ done g (state_of m c) left)
Steps o m c (Err (Stuck why)) = o ≡ stuck why m
Steps o m c (Err Budget) = o ≡ needs m
Steps o m c (Err Memory) = Unit {0}

-- the steps that are left, where a run gives the slots of a frame
abbrev pub Lands : Outcome (List Scalar) → List Scalar → Stored → Changes → Result ℕ RunFault → Type 0
Lands o us m c (Ok left) = o ≡ done us (state_of m c) left
Lands o us m c (Err (Stuck why)) = o ≡ stuck why m
Lands o us m c (Err Budget) = o ≡ needs m
Lands o us m c (Err Memory) = Unit {0}

-- An assignment of what is given, if a value is, to a place in a frame of these slots. It is stuck with this store.
abbrev pub into_place : Stored → List Scalar → Place → Given → State → ℕ → Outcome (List Scalar)
into_place m us place None s left = stuck KindsDiffer m
into_place m us place (Some v) s left =
    lift m (write_place s.store us place v) (λ w. done w.slots (record { store = w.store; made = s.made; freed = s.freed }) left)
