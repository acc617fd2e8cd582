-- What the C function of an iterator does in any program, whatever function it calls (docs/LANGUAGE.md, "The C of instances", library).
use Rattle.std.specs.Prelude.{◌≡◌, ℕ, ◌+◌, ◌^◌, ◌<◌, ◌≤◌, true, List, [], ◌∷◌, length, IsTrue, Option, Some}
use Rattle.cg_base.specs.declared.fun.Lib.{Lib}
use Rattle.cg_base.specs.declared.kind.Word.TheVariants.{U32}
use Rattle.cg_base.specs.Types.{Tau}
use Rattle.cg_cgen_def.specs.Loops.{iterator_function}
use Rattle.cg_cmachine_def.specs.Layouts.{Layout, cell, layout}
use Rattle.cg_cmachine_def.specs.Operands.{Value, typed}
use Rattle.cg_cmachine_def.specs.Outcomes as runs
use Rattle.cg_cmachine_def.specs.Outcomes.{done}
use Rattle.cg_cmachine_def.specs.Runs.{Linked, callee, calls_in, crun, find, own}
use Rattle.cg_core_def.specs.Lawful.{library_arity}
use Rattle.cg_eval_operations.specs.Iterators.{is_iterator}
use Rattle.cg_heap.specs.declared.cell.Scalar.{Scalar}
use Rattle.cg_heap.specs.declared.cell.Scalar.TheVariants.{Word}
use Rattle.cg_heap.specs.Reps.{first_number}
use Rattle.cg_heap.specs.Stored.{Stored}
use Rattle.cg_typing.specs.Functions.{are_good_arguments, asked_by_library}
use Rattle.cg_typing.specs.Instances.{as_arguments}
use Rattle.cg_typing.specs.Library.{library_type}
use Rattle.cg_typing.specs.Parts.{given_by, taken_by}
use Rattle.cg_update.specs.Machines.{is_machine}
use Rattle.cg_update.specs.Outcomes.{State, Outcome, gives, pay_for, starting, where_true}
use Rattle.cg_update.specs.Turns.{Argument, field_in, has_array, indices, turns}
use Rattle.cg_lower_def.specs.CTypes.{c_type, IsDeclared}
use Rattle.cg_lower_def.specs.IteratorCode.{function_type, types_in}
use Rattle.cg_lower_def.specs.Simulated.{as_run}

-- ---- what is called

-- A meaning of calls: of an argument, a state and what is left of a budget.
abbrev pub Meaning : Type 0
Meaning = List Scalar → State → ℕ → Outcome

-- a call of a function of the program gives a value in just so many steps, however many are left behind it
pub record CallEnds (q : Linked) (x : List ℕ) (vs : List Value) (s : runs.State) (steps : ℕ) (v : Value) (s' : runs.State) : Type 0 where
  pub is_own : callee q x ≡ own
  pub ends : (m rest : ℕ) → steps + rest < m → calls_in q m x vs s (steps + rest) ≡ done v s' rest

-- a type as C lays it out, over a number for each struct
abbrev pub lay_by : Linked → (Tau → ℕ) → Tau → Layout
lay_by q numbered t = layout q.program.structs (c_type numbered t)

-- what a call of the function of a name does, on a tag and an argument
pub record Answered (types : ℕ → Option Tau) (numbered : Tau → ℕ) (q : Linked) (x : List ℕ) (k : ℕ) (a b : Tau) (us ws : List Scalar) (s s' : State) (left rest : ℕ) : Type 0 where
  pub steps : ℕ
  pub takes : left ≡ steps + rest
  pub ends : CallEnds q x (typed (cell U32) (Word k ∷ []) ∷ typed (lay_by q numbered a) us ∷ []) (as_run s) steps (typed (lay_by q numbered b) ws) (as_run s')
  pub machine : is_machine types b ws ≡ true

-- The function of a name does, on the tag k, what a meaning says, in as many steps as this takes off its budget: wherever it gives something
-- of a machine value of the type a, this is one of the type b.
abbrev pub Answers : (ℕ → Option Tau) → (Tau → ℕ) → Linked → List ℕ → ℕ → Tau → Tau → Meaning → Type 0
Answers types numbered q x k a b call =
    (us ws : List Scalar) (s s' : State) (left rest : ℕ) → call us s left ≡ gives ws s' rest → is_machine types a us ≡ true
    → Answered types numbered q x k a b us ws s s' left rest

-- ---- what is done

-- an iterator's argument, and what it calls with: the number in field 3
abbrev pub argument_of : Lib → List Tau → List Scalar → Argument
argument_of lib args us = record { ty = taken_by (library_type lib args); scalars = us }

abbrev pub tag_in : Lib → List Tau → List Scalar → ℕ
tag_in lib args us = first_number (field_in (argument_of lib args us) 3)

-- an iterator, whose calls mean this: one call a turn, in the order of the indices, each going on from what the one before it gave
abbrev pub iterated_by : Meaning → Lib → List Tau → List Scalar → State → ℕ → Outcome
iterated_by call lib args us s left =
    where_true (has_array lib args (argument_of lib args us) s.store)
    (turns call lib args (argument_of lib args us) (indices lib (argument_of lib args us) s.store) (field_in (argument_of lib args us) 4) s left)

-- A turn pays one by itself: with these 23 it pays 24 steps of C.
abbrev pub with_steps : Meaning → Meaning
with_steps call us s left = pay_for 23 left (λ paid. call us s paid)

-- The C function of an iterator: in every program in which it is the first function of its name and which declares the structs of its types and
-- its function's, over every meaning of what it calls, on every argument that is a machine value of its type. It does what the library
-- says, within 24 steps a turn and 24 beside, and those of what it calls.
abbrev pub IteratorsRun : Type 0
IteratorsRun =
    (lib : Lib) (args : List Tau) (types : ℕ → Option Tau) (numbered : Tau → ℕ) (q : Linked) (x called : List ℕ) (call : Meaning) (us ws : List Scalar) (m : Stored) (s : State) (left rest : ℕ)
    → is_iterator lib ≡ true → length args ≡ library_arity lib → IsTrue (are_good_arguments [] (asked_by_library lib) (as_arguments args))
    → find x q.program.functions ≡ Some (iterator_function lib x (types_in numbered lib args) called)
    → IsDeclared numbered q.program.structs (taken_by (library_type lib args)) → IsDeclared numbered q.program.structs (given_by (library_type lib args))
    → IsDeclared numbered q.program.structs (taken_by (function_type lib args)) → IsDeclared numbered q.program.structs (given_by (function_type lib args))
    → ((k : ℕ) (t : Tau) → types k ≡ Some t → k < 2 ^ 32) → is_machine types (taken_by (library_type lib args)) us ≡ true
    → Answers types numbered q called (tag_in lib args us) (taken_by (function_type lib args)) (given_by (function_type lib args)) call
    → iterated_by (with_steps call) lib args us (starting m) left ≡ gives ws s rest
    → (over : ℕ) × (rest ≤ over) × (crun q (left + 24) x us m ≡ done ws (as_run s) over)
