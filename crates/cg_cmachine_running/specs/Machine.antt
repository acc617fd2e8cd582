-- What a state of the machine will give: what waits on the stack stands for what is done once the statements at hand are done.
use Rattle.std.specs.Prelude.{◌≡◌, ℕ, ◌+◌, ◌*◌, ◌<◌, ◌^◌, List, [], ◌∷◌, ◌++◌, length, map, slice_get, Option, Some, None, Result, Ok, Err}
use Rattle.std.specs.List.{All}
use Rattle.std.specs.Option.{option_map}
use Rattle.cg_cmachine_builtins.specs.Called.{state_of}
use Rattle.cg_cmachine_builtins.specs.declared.changes.Changes.{Changes}
use Rattle.cg_cmachine_running.specs.declared.machine.Frame.{Frame}
use Rattle.cg_cmachine_running.specs.declared.machine.Kont.{Kont}
use Rattle.cg_cmachine_running.specs.declared.machine.Kont.TheVariants.{After, Return}
use Rattle.cg_cmachine_running.specs.declared.machine.Machine.{Machine}
use Rattle.cg_cmachine_running.specs.declared.machine.Next.{Next}
use Rattle.cg_cmachine_running.specs.declared.machine.Next.TheVariants.{Goes, Back, Ask}
use Rattle.cg_cmachine_layout.specs.Kinds.{layout_of}
use Rattle.cg_cmachine_resolve.specs.declared.code.Position.{Position}
use Rattle.cg_cmachine_resolve.specs.declared.line.Callee.{Callee}
use Rattle.cg_cmachine_resolve.specs.declared.line.Callee.TheVariants as callee
use Rattle.cg_cmachine_resolve.specs.Lines.{linked}
use Rattle.cg_cmachine_resolve.specs.Resolutions.{Resolution, lines_at, next}
use Rattle.cg_cmachine_resolve.specs.Scopes.{Scope, frame_of as scoped, scope_of, total}
use Rattle.cg_cmachine_def.specs.Layouts.{Layout, group, empty, layout, size}
use Rattle.cg_cmachine_def.specs.Operands.{Value, typed, scalars_of}
use Rattle.cg_cmachine_def.specs.Operands as operands
use Rattle.cg_cmachine_def.specs.Outcomes.{Judged, ok, no, on, State, Outcome, done, stuck, needs, astray, bind}
use Rattle.cg_cmachine_def.specs.Runs.{Calls, Flow, Linked, assigned, back, call_abstract, calls_in, choose, goes, onward, returned, run_block, run_function}
use Rattle.cg_ctree.specs.declared.tree.CFun.{CFun}
use Rattle.cg_ctree.specs.declared.why.Why.TheVariants.{NoCase, NoFunction, KindsDiffer}
use Rattle.cg_ctree.specs.Trees.{assign, Block, also, block_of, function_of}
use Rattle.cg_cmachine_values.specs.declared.fault.RunFault.{RunFault}
use Rattle.cg_cmachine_values.specs.declared.fault.RunFault.TheVariants.{Stuck, Budget, Memory}
use Rattle.cg_cmachine_values.specs.Values.{value_of}
use Rattle.cg_heap.specs.Calls.{Answer}
use Rattle.cg_heap.specs.declared.cell.Scalar.{Scalar}
use Rattle.cg_heap.specs.Stored.{Stored}

-- what a table answers to calls of abstract functions
abbrev pub Asked : Type 0
Asked = List ℕ → List Scalar → Stored → Option Answer

-- ---- the functions of a program

abbrev pub function_at : Resolution → ℕ → Option CFun
function_at r f = slice_get r.whole.program.funs f

abbrev pub lay_at : Resolution → ℕ → Layout
lay_at r f = by (function_at r f) where
  by : Option CFun → Layout
  by None = group [] empty
  by (Some g) = layout r.whole.program.structs g.ty

abbrev pub scope_at : Resolution → ℕ → Scope
scope_at r f = by (function_at r f) where
  by : Option CFun → Scope
  by None = []
  by (Some g) = scope_of r.whole.program.structs g

-- a frame of a function, by its names
abbrev pub framed : Resolution → Frame → operands.Frame
framed r fr = scoped (scope_at r fr.at.function) fr.slots.items

-- the scalars of values that are of these types, one for each
abbrev pub gathered : List Layout → List Value → Judged (List Scalar)
gathered [] [] = ok []
gathered (l ∷ ls) (v ∷ vs) = on (operands.give l v) (λ us. on (gathered ls vs) (λ ws. ok (us ++ ws)))
gathered _ _ = no KindsDiffer

-- what is done with the end of the statements of a function
abbrev pub Cont : Type 0
Cont = ℕ → Outcome Flow → Outcome (List Scalar)

module _ (r : Resolution) (asked : Asked) (n : ℕ) where
  abbrev pub program : Linked
  program = linked r.whole asked

  unfoldable pub calls : Calls
  calls = calls_in program n

  -- the statements from a place on
  unfoldable pub block : Position → operands.Frame → State → ℕ → Outcome Flow
  block at = run_block program calls n (lay_at r at.function) (block_of (lines_at r at))

  -- the value of a function whose statements have this outcome
  abbrev pub valued : ℕ → Outcome Flow → Outcome Value
  valued f o = bind (returned program o) (λ us s left. done (typed (lay_at r f) us) s left)

  -- what the statement that waits for a value does with it
  abbrev pub landing : Frame → Block → Value → State → ℕ → Outcome Flow
  landing fr (also (assign t rhs) rest) v s left = assigned program s.store (framed r fr) t v s left
  landing fr _ v s left = done (goes (framed r fr)) s left

  abbrev pub landed : Frame → Outcome Value → Outcome Flow
  landed fr o = bind o (landing fr (block_of (lines_at r fr.at)))

  -- a call of the abstract function that a function is
  abbrev pub abstract_call : Option CFun → List ℕ → List Value → State → ℕ → Outcome Value
  abstract_call None name vs s left = astray
  abstract_call (Some g) name vs s left = call_abstract program (function_of g) name vs s left

  -- a function of the program that is called
  unfoldable pub entered : ℕ → List Value → State → ℕ → Outcome Value
  entered f vs s left = run_function program calls n vs s left (option_map function_of (function_at r f))

  -- a call of other than a built-in
  abbrev pub called_in : Callee → List Value → State → ℕ → Outcome Value
  called_in (callee.Own i) vs s left = entered i vs s left
  called_in (callee.Linked i name) vs s left = abstract_call (function_at r i) name.now vs s left
  called_in _ vs s left = stuck NoFunction s.store

  -- what waits, and then k
  unfoldable pub on_kont : Kont → Cont → Cont
  on_kont (After b i) k f o = k f (onward o (block (record { function = f; block = b; index = i })))
  on_kont (Return fr) k f o = k fr.at.function (onward (landed fr (valued f o)) (block (next fr.at)))

  abbrev pub waits_from : Cont → List Kont → Cont
  waits_from k [] = k
  waits_from k (f ∷ fs) = waits_from (on_kont f k) fs

  -- all that waits, the last first
  unfoldable pub waits : List Kont → Cont
  waits fs = waits_from (λ f o. returned program o) fs

  -- what the state gives
  abbrev pub said : Machine → Stored → Next → Outcome (List Scalar)
  said m store Goes =
      waits m.stack.items m.frame.at.function (block m.frame.at (framed r m.frame) (state_of store m.changes) m.left)
  said m store (Back v) =
      waits m.stack.items m.frame.at.function (done (back (scalars_of (value_of v))) (state_of store m.changes) m.left)
  said m store (Ask f name vs) =
      waits m.stack.items m.frame.at.function (onward (landed m.frame
      (abstract_call (function_at r f) name.now (map value_of vs.items) (state_of store m.changes) m.left)) (block (next m.frame.at)))

  -- a step goes on with what is to come, or says why there is nothing to go on with
  abbrev pub Went : Outcome (List Scalar) → Machine → Stored → Result Next RunFault → Type 0
  Went o m store (Ok next) = said m store next ≡ o
  Went o m store (Err (Stuck why)) = o ≡ stuck why store
  Went o m store (Err Budget) = o ≡ needs store
  Went o m store (Err Memory) = Unit {0}

  -- where what comes next has this outcome, and the state was `old`
  abbrev pub Comes : Machine → Outcome Flow → Machine → Stored → Result Next RunFault → Type 0
  Comes old o m store result = Went (waits old.stack.items old.frame.at.function o) m store result

  -- where the statement at hand has this outcome
  abbrev pub Follows : Machine → Outcome Flow → Machine → Stored → Result Next RunFault → Type 0
  Follows old o m store result = Comes old (onward o (block (next old.frame.at))) m store result

  -- the block of a number, in the state at hand
  abbrev pub inner : Machine → Stored → ℕ → Outcome Flow
  inner m store b = block (record { function = m.frame.at.function; block = b; index = 0 }) (framed r m.frame) (state_of store m.changes) m.left

  -- a loop's test: a turn and then the loop again, or what stands behind it
  abbrev pub turned : Machine → Stored → ℕ → ℕ → Outcome Flow
  turned m store b k =
      choose k (onward (inner m store b) (block m.frame.at)) (block (next m.frame.at) (framed r m.frame) (state_of store m.changes) m.left)

  -- the block of the first case of a number
  abbrev pub inner_case : Machine → Stored → Option ℕ → Outcome Flow
  inner_case m store None = stuck NoCase store
  inner_case m store (Some b) = inner m store b

  -- what the statement at hand, which called, does with a value
  abbrev pub landed_here : Machine → Outcome Value → Outcome Flow
  landed_here m o = landed m.frame o

  -- a frame's slots, by the names of its function
  abbrev pub by_names : ℕ → Outcome (List Scalar) → Outcome Flow
  by_names f o = bind o (λ us s left. done (goes (scoped (scope_at r f) us)) s left)

-- ---- what a state always has

-- as many slots as the function's variables have, and its type
pub record IsFrame (r : Resolution) (fr : Frame) : Type 0 where
  pub many : length fr.slots.items ≡ total (scope_at r fr.at.function)
  pub result : layout_of fr.kind ≡ lay_at r fr.at.function

abbrev pub IsKont : Resolution → Kont → Type 0
IsKont r (After b i) = Unit {0}
IsKont r (Return fr) = IsFrame r fr

-- a value of a type, with as many scalars as that has slots
pub record IsTyped (l : Layout) (v : Value) : Type 0 where
  pub typed : v ≡ typed l (scalars_of v)
  pub many : length (scalars_of v) ≡ size l

-- a value that is returned is of the function's type
abbrev pub IsNext : Resolution → Machine → Next → Type 0
IsNext r m Goes = Unit {0}
IsNext r m (Back v) = IsTyped (lay_at r m.frame.at.function) (value_of v)
IsNext r m (Ask f name vs) = Unit {0}

-- a step that is counted may still ask an abstract function
abbrev pub slack : Next → ℕ
slack Goes = 1
slack (Back v) = 1
slack (Ask f name vs) = 2

-- room above the top for the cells of so many steps more than are left, 65,536 a step
abbrev pub IsLow : ℕ → Machine → Stored → Type 0
IsLow k m store = store.top + (m.left + k) * 65536 < 2 ^ 63

pub record IsState (r : Resolution) (m : Machine) : Type 0 where
  pub frame : IsFrame r m.frame
  pub stack : All (IsKont r) m.stack.items

-- a call is entered: the frame that it begins with
abbrev pub Enters : Resolution → Asked → ℕ → Outcome Value → Stored → Changes → ℕ → Result Frame RunFault → Type 0
Enters r asked n o store c left (Ok fr) =
    (o ≡ valued r asked n fr.at.function (block r asked n fr.at (framed r fr) (state_of store c) left)) × IsFrame r fr
Enters r asked n o store c left (Err (Stuck why)) = o ≡ stuck why store
Enters r asked n o store c left (Err Budget) = ⊥
Enters r asked n o store c left (Err Memory) = Unit {0}

-- falls in each step
abbrev pub weight : Machine → Next → ℕ
weight m Goes = 3 * m.left + length m.stack.items
weight m (Back v) = 3 * m.left + length m.stack.items
weight m (Ask f name vs) = 3 * m.left + length m.stack.items + 1

-- what is returned, with the steps that are left
abbrev pub Ends : {A : Type 0} → (A → Value) → Outcome (List Scalar) → Stored → Changes → ℕ → Result A RunFault → Type 0
Ends f o store c left (Ok a) = o ≡ done (scalars_of (f a)) (state_of store c) left
Ends f o store c left (Err (Stuck why)) = o ≡ stuck why store
Ends f o store c left (Err Budget) = o ≡ needs store
Ends f o store c left (Err Memory) = Unit {0}
