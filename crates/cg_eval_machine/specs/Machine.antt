-- What a state of the evaluator will give: a frame stands for what is done with the value that it waits for.
use Rattle.std.specs.Prelude.{◌≡◌, ℕ, Bool, true, false, ◌+◌, ◌*◌, List, [], ◌∷◌, ◌++◌, if◌then◌else◌, length, map, take, None, Result, Ok, Err}
use Rattle.cg_base.specs.Types.{type_of}
use Rattle.cg_core.specs.declared.term.FieldTerm.{FieldTerm}
use Rattle.cg_core.specs.declared.term.Typed.{Typed}
use Rattle.cg_core.specs.Kernels.{the_core, the_core_field}
use Rattle.cg_core.specs.Terms.{Named, Note, to_named}
use Rattle.cg_value.specs.declared.value.Value.{Value}
use Rattle.cg_value.specs.Forms.{field, has_name, is_true, payload_in, with_field, without}
use Rattle.cg_value.specs.Values.{Val, chosen, value_of}
use Rattle.cg_eval_machine.specs.declared.halt.Halt.{Halt}
use Rattle.cg_eval_machine.specs.declared.halt.Halt.TheVariants.{StepLimit, Stuck, Memory}
use Rattle.cg_eval_machine.specs.declared.machine.Focus.{Focus}
use Rattle.cg_eval_machine.specs.declared.machine.Focus.TheVariants.{Want, Have, Ask}
use Rattle.cg_eval_machine.specs.declared.frame.Frame.{Frame}
use Rattle.cg_eval_machine.specs.declared.frame.Frame.TheVariants.{One, Right, Two, Argument, Call, Body, Branches, Wrap, Arms, Payload, Fields, Pick, Open, Into, Place, Leave, Back, Turn}
use Rattle.cg_eval_machine.specs.declared.machine.Machine.{Machine}
use Rattle.cg_eval_operations.specs.declared.turns.Turns.{Turns}
use Rattle.cg_eval_def.specs.Evaluation.{Outcome, spent, stuck, gives, bind, pay, Table, Context, push, all_of, apply, call, enter, evaluate, turns}
use Rattle.cg_eval_operations.specs.Iterators.{asked, carried, changed, indices_from, stops}
use Rattle.cg_eval_operations.specs.Operators.{operated, operated_both}

-- what waits for the values of the variables, a value and a budget
abbrev pub Cont : Type 0
Cont = Context → Val → ℕ → Outcome

abbrev pub context_of : Machine → Context
context_of m = record { types = map type_of m.types; values = map value_of m.values.items }

-- the fields of a record that is made
abbrev pub named_of : List (FieldTerm Typed) → Named Note
named_of fs = to_named (map the_core_field fs)

module _ (table : Table) where
  -- one turn
  abbrev pub turn : Turns → ℕ → Val → Val → ℕ → Outcome
  turn t i a s left = call table (evaluate table) (value_of t.function) (asked t.lib (value_of t.observed) i a s) left

  -- the turns at these indices
  abbrev pub turns_of : Turns → List ℕ → Val → Val → ℕ → Outcome
  turns_of t is a s left = turns (turn t) t.lib is a s left

  -- the rest of a node that waits for a value
  unfoldable pub resume : Frame → Cont
  resume (One o ty) c v left = gives (operated o (type_of ty.now) v) left
  resume (Right o ty b) c v left = bind (evaluate table (the_core b.now) c left) (λ w rest. gives (operated_both o (type_of ty.now) v w) rest)
  resume (Two o ty v) c w left = gives (operated_both o (type_of ty.now) (value_of v) w) left
  resume (Argument x) c v left = bind (evaluate table (the_core x.now) c left) (λ w rest. apply table (evaluate table) v w rest)
  resume (Call f) c w left = apply table (evaluate table) (value_of f) w left
  resume (Body k) c v left = evaluate table (the_core k.now) (push c v) left
  resume (Branches a b) c v left = evaluate table (if is_true v then the_core a.now else the_core b.now) c left
  resume (Wrap x) c v left = gives (chosen x.now v) left
  resume (Arms x a b) c v left =
      if has_name x.now v then evaluate table (the_core a.now) (push c (payload_in v)) left else evaluate table (the_core b.now) (push c v) left
  resume Payload c v left = gives (payload_in v) left
  resume (Fields vs fs) c v left = all_of (evaluate table) (named_of fs.now) c (map value_of vs ++ v ∷ []) left
  resume (Pick i) c v left = gives (field v i) left
  resume (Open i k) c v left = evaluate table (the_core k.now) (push (push c (without v i)) (field v i)) left
  resume (Into i x) c v left = pay left (λ paid. bind (evaluate table (the_core x.now) c paid) (λ w last. gives (with_field v i w) last))
  resume (Place i v) c w left = gives (with_field (value_of v) i w) left
  resume (Leave n) c v left = gives v left
  resume (Back values types) c v left = gives v left
  resume (Turn i t a) c v left =
      if stops t.lib v then gives v left
      else turns_of t (indices_from (i + t.step) t.to t.step) (changed t.lib i (value_of a) v) (carried t.lib v) left

  -- what the variables stand for once a frame is done
  unfoldable pub after : Frame → Context → Context
  after (Leave n) c = record { types = c.types; values = take n c.values }
  after (Back values types) c = record { types = map type_of types; values = map value_of values.items }
  after _ c = c

  -- a frame, and then k
  unfoldable pub on : Frame → Cont → Cont
  on f k c v left = bind (resume f c v left) (k (after f c))

  abbrev pub rest_from : Cont → List Frame → Cont
  rest_from k [] = k
  rest_from k (f ∷ fs) = rest_from (on f k) fs

  -- all the frames, the last one first
  unfoldable pub rest : List Frame → Cont
  rest fs = rest_from (λ c v left. gives v left) fs

  abbrev pub goes_on : Cont → Context → ℕ → Focus → Outcome
  goes_on k c left (Want t) = bind (evaluate table (the_core t.now) c left) (k c)
  goes_on k c left (Have v) = k c (value_of v) left
  goes_on k c left (Ask i v) = bind (enter table (evaluate table) i (value_of v) left None) (k c)

  -- what the state gives
  abbrev pub said : Machine → Focus → Outcome
  said m f = goes_on (rest m.frames.items) (context_of m) m.left f

  -- a step goes on with what is to come of it, or says why there is nothing to go on with
  abbrev pub Went : Machine → Outcome → Result Focus Halt → Type 0
  Went m o (Ok f) = said m f ≡ o
  Went m o (Err StepLimit) = o ≡ spent
  Went m o (Err Stuck) = o ≡ stuck
  Went m o (Err Memory) = Unit {0}

-- a frame that gives a value at once
abbrev pub gives_at_once : Frame → Bool
gives_at_once (One o ty) = true
gives_at_once (Two o ty v) = true
gives_at_once (Wrap x) = true
gives_at_once Payload = true
gives_at_once (Pick i) = true
gives_at_once (Place i v) = true
gives_at_once (Leave n) = true
gives_at_once (Back values types) = true
gives_at_once _ = false

abbrev pub waiting : Focus → ℕ
waiting (Want t) = 0
waiting (Have v) = 1
waiting (Ask i v) = 2

-- falls in each step
abbrev pub weight : Machine → Focus → ℕ
weight m f = 3 * m.left + 2 * length m.frames.items + waiting f

-- the value, and the budget that is left
abbrev pub Gave : Outcome → Result (Value × ℕ) Halt → Type 0
Gave o (Ok r) = o ≡ gives (value_of r.0) r.1
Gave o (Err StepLimit) = o ≡ spent
Gave o (Err Stuck) = o ≡ stuck
Gave o (Err Memory) = Unit {0}
