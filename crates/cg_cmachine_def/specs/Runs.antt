-- What a program of the C subset does (docs/LANGUAGE.md, "The C subset"): a recursion over its statements, with what is left of a
-- budget of steps, and no stack.
use Rattle.std.specs.Prelude.{ℕ, zero, suc, true, false, List, [], ◌∷◌, ◌++◌, length, replicate, take, drop, Option, Some, None, cond, nat_eq, nat_le, if◌then◌else◌}
use Rattle.std.specs.List.{flat_map}
use Rattle.std.specs.Str.{bytes_eq}
use Rattle.cg_base.specs.declared.kind.Word.TheVariants.{U8}
use Rattle.cg_cmachine_def.specs.BuiltIns.{BuiltIn, Given, built_in, called, make_struct}
use Rattle.cg_cmachine_def.specs.Layouts.{Layout, size, layout, pointed}
use Rattle.cg_cmachine_def.specs.Operands.{Value, typed, Frame, judge, judge_all, word_in, address_in, give, read, scalars_of}
use Rattle.cg_cmachine_def.specs.Operations.{flag, word_value, converted, computed, flipped}
use Rattle.cg_cmachine_def.specs.Outcomes.{Judged, ok, no, on, State, Outcome, done, stuck, needs, astray, bind, lift, spend, spend_for}
use Rattle.cg_cmachine_def.specs.Targets.{write}
use Rattle.cg_ctree.specs.declared.tree.CDecl.{CDecl}
use Rattle.cg_ctree.specs.declared.tree.COpnd.{COpnd}
use Rattle.cg_ctree.specs.declared.tree.CPath.{CPath}
use Rattle.cg_ctree.specs.declared.tree.CRhs.{CRhs}
use Rattle.cg_ctree.specs.declared.tree.CRhs.TheVariants.{Opnd, Conv, Binary, Flip, IsNull, Call, New}
use Rattle.cg_ctree.specs.declared.tree.CStruct.{CStruct}
use Rattle.cg_ctree.specs.declared.tree.CTy.{CTy}
use Rattle.cg_ctree.specs.declared.why.Why.TheVariants.{NoFunction, NoBody, NoCase, NoReturn, KindsDiffer}
use Rattle.cg_ctree.specs.Trees.{Stmt, assign, branch, while, switch, call, return', Block, stop, also, Cases, end, case, Body, Function, Program}
use Rattle.cg_heap.specs.Calls.{Answer, Out}
use Rattle.cg_heap.specs.declared.cell.Scalar.{Scalar}
use Rattle.cg_heap.specs.declared.cell.Scalar.TheVariants.{Unset}
use Rattle.cg_heap.specs.declared.foreign.Link.{Link}
use Rattle.cg_heap.specs.Stored.{Stored}

-- a program, with the abstract functions that some of its functions are, and what a table answers to calls of those
pub record Linked : Type 0 where
  pub program : Program
  pub links : List Link
  pub asked : List ℕ → List Scalar → Stored → Option Answer

-- ---- statements go on behind, or return

pub data Flow : Type 0 where
  goes : Frame → Flow
  back : List Scalar → Flow

abbrev pub onward : Outcome Flow → (Frame → State → ℕ → Outcome Flow) → Outcome Flow
onward (done (goes fr) s left) f = f fr s left
onward (done (back us) s left) f = done (back us) s left
onward (stuck why m) f = stuck why m
onward (needs m) f = needs m
onward astray f = astray

-- the first of two where a number isn't 0
abbrev pub choose : {A : Type 0} → ℕ → A → A → A
choose zero x y = y
choose (suc n) x y = x

-- ---- what stands on the right of an assignment, beside calls and `cg_new`

abbrev pub judged_word : List CStruct → Stored → Frame → COpnd → Judged ℕ
judged_word ss m fr o = on (judge ss m fr o) word_in

abbrev pub plain : List CStruct → Stored → Frame → CRhs → Judged Value
plain ss m fr (Opnd o) = judge ss m fr o
plain ss m fr (Conv w o) = on (judged_word ss m fr o) (λ n. ok (converted w n))
plain ss m fr (Binary outer inner o l r) = on (judged_word ss m fr l) (λ a. on (judged_word ss m fr r) (λ b. computed outer inner o a b))
plain ss m fr (Flip outer inner o) = on (judged_word ss m fr o) (λ n. ok (flipped outer inner n))
plain ss m fr (IsNull o) = on (judge ss m fr o) (λ v. on (address_in v) (λ p. ok (word_value U8 (flag (nat_eq p 0)))))
plain ss m fr _ = no KindsDiffer

-- ---- functions

-- the first function of a name
abbrev pub find : List ℕ → List Function → Option Function
find x [] = None
find x (f ∷ fs) = if bytes_eq x f.name then Some f else find x fs

-- the abstract function that a function of a name is
abbrev pub linked_to : List ℕ → List Link → Option (List ℕ)
linked_to x [] = None
linked_to x (l ∷ ls) = if bytes_eq x l.c then Some l.name else linked_to x ls

-- a function's name, its arguments, the state and the steps that are left
abbrev pub Calls : Type 0
Calls = List ℕ → List Value → State → ℕ → Outcome Value

-- what a call is of: a built-in, whatever is declared; a function of the program; or an abstract function
pub data Callee : Type 0 where
  built : BuiltIn → Callee
  abstract' : Function → List ℕ → Callee
  own : Callee

abbrev pub without_body : Function → Option (List ℕ) → Option Body → Callee
without_body f (Some name) None = abstract' f name
without_body f None None = own
without_body f link (Some b) = own

abbrev pub in_program : Linked → List ℕ → Option Function → Callee
in_program p x None = own
in_program p x (Some f) = without_body f (linked_to x p.links) f.body

abbrev pub by_name : Linked → List ℕ → Option BuiltIn → Callee
by_name p x (Some b) = built b
by_name p x None = in_program p x (find x p.program.functions)

abbrev pub callee : Linked → List ℕ → Callee
callee p x = by_name p x (built_in x)

-- ---- calls of abstract functions

-- the values are of the parameters' types
abbrev pub agree : List CStruct → List CDecl → List Value → Judged (Unit {0})
agree ss [] [] = ok tt
agree ss [] (v ∷ vs) = no KindsDiffer
agree ss (d ∷ ds) [] = no KindsDiffer
agree ss (d ∷ ds) (v ∷ vs) = on (give (layout ss d.ty) v) (λ us. agree ss ds vs)

-- the state behind what a call did
abbrev pub state_behind : State → Out → State
state_behind s o = record { store = o.store; made = s.made ++ o.made; freed = s.freed ++ o.freed }

-- as many scalars as the type has slots
abbrev pub has_size : Layout → List Scalar → Judged (Unit {0})
has_size l us = cond (nat_eq (length us) (size l)) (ok tt) (no KindsDiffer)

-- What an abstract function answers to arguments that agree or don't, as a result of a type. Its steps are judged before it runs, and what
-- it did stands, also where its result is of another size.
abbrev pub answered : Judged (Unit {0}) → Layout → State → ℕ → Option Answer → Outcome (List Scalar)
answered agrees l s left None = astray
answered agrees l s left (Some a) =
    lift s.store agrees (λ _. spend_for s.store a.cost left (λ rest.
    lift a.out.store (has_size l a.out.result) (λ _. done a.out.result (state_behind s a.out) rest)))

abbrev pub call_abstract : Linked → Function → List ℕ → List Value → State → ℕ → Outcome Value
call_abstract p f name vs s left =
    bind (answered (agree p.program.structs f.params vs) (layout p.program.structs f.ty) s left (p.asked name (flat_map scalars_of vs) s.store)) (λ us after rest.
    lift after.store (read (layout p.program.structs f.ty) us) (λ v. done v after rest))

-- ---- statements

module _ (p : Linked) where
  abbrev pub judged : Stored → Frame → COpnd → Judged Value
  judged = judge p.program.structs

  -- an assignment of a value, in the state behind what gave it; where it is stuck, this store stands
  abbrev pub assigned : Stored → Frame → CPath → Value → State → ℕ → Outcome Flow
  assigned m fr t v s left =
      lift m (write p.program.structs fr s.store t v) (λ w. done (goes w.frame) (record { store = w.store; made = s.made; freed = s.freed }) left)

  -- an assignment of what is given, if a value is
  abbrev pub assigned_given : Stored → Frame → CPath → Given → State → ℕ → Outcome Flow
  assigned_given m fr t None s left = stuck KindsDiffer m
  assigned_given m fr t (Some v) s left = assigned m fr t v s left

  -- An assignment of a call. What a function did stands, also where the assignment is stuck behind it; what a built-in did is part of
  -- the assignment's step.
  abbrev pub assigned_call : Calls → Callee → Frame → CPath → List ℕ → List Value → State → ℕ → Outcome Flow
  assigned_call calls own fr t f vs s left = bind (calls f vs s left) (λ v after rest. assigned after.store fr t v after rest)
  assigned_call calls (abstract' g name) fr t f vs s left =
      bind (call_abstract p g name vs s left) (λ v after rest. assigned after.store fr t v after rest)
  assigned_call calls (built b) fr t f vs s left = bind (called b true vs s left) (λ g after rest. assigned_given s.store fr t g after rest)

  -- a call whose value nobody takes
  abbrev pub dropped_call : Calls → Callee → Frame → List ℕ → List Value → State → ℕ → Outcome Flow
  dropped_call calls own fr f vs s left = bind (calls f vs s left) (λ v after rest. done (goes fr) after rest)
  dropped_call calls (abstract' g name) fr f vs s left = bind (call_abstract p g name vs s left) (λ v after rest. done (goes fr) after rest)
  dropped_call calls (built b) fr f vs s left = bind (called b false vs s left) (λ g after rest. done (goes fr) after rest)

  -- an assignment, whose step is counted
  abbrev pub run_assign : Calls → CPath → CRhs → Frame → State → ℕ → Outcome Flow
  run_assign calls t (Call f os) fr s left =
      lift s.store (judge_all p.program.structs s.store fr os) (λ vs. assigned_call calls (callee p f) fr t f vs s left)
  run_assign calls t (New o x) fr s left =
      lift s.store (judged s.store fr o) (λ v. bind (make_struct x (size (pointed p.program.structs x)) v s left) (λ g after rest. assigned_given s.store fr t g after rest))
  run_assign calls t r fr s left = lift s.store (plain p.program.structs s.store fr r) (λ v. assigned s.store fr t v s left)

  -- a loop, which makes at most so many turns
  abbrev pub turns : ℕ → COpnd → (Frame → State → ℕ → Outcome Flow) → Frame → State → ℕ → Outcome Flow
  turns zero o body fr s left = needs s.store
  turns (suc n) o body fr s left =
      spend s.store left (λ rest. lift s.store (judged_word p.program.structs s.store fr o) (λ k.
      choose k (onward (body fr s rest) (turns n o body)) (done (goes fr) s rest)))

  -- Statements in a function of a type, where calls mean `calls` and a loop makes at most n turns.
  unfoldable mutual
    pub run_stmt : Calls → ℕ → Layout → Stmt → Frame → State → ℕ → Outcome Flow
    run_stmt calls n l (assign t r) fr s left = spend s.store left (λ rest. run_assign calls t r fr s rest)
    run_stmt calls n l (branch o x y) fr s left =
        spend s.store left (λ rest. lift s.store (judged_word p.program.structs s.store fr o) (λ k.
        choose k (run_block calls n l x fr s rest) (run_block calls n l y fr s rest)))
    run_stmt calls n l (while o x) fr s left = turns n o (run_block calls n l x) fr s left
    run_stmt calls n l (switch o cs) fr s left =
        spend s.store left (λ rest. lift s.store (judged_word p.program.structs s.store fr o) (λ k. run_cases calls n l k cs fr s rest))
    run_stmt calls n l (call f os) fr s left =
        spend s.store left (λ rest. lift s.store (judge_all p.program.structs s.store fr os) (λ vs. dropped_call calls (callee p f) fr f vs s rest))
    run_stmt calls n l (return' o) fr s left =
        spend s.store left (λ rest. lift s.store (on (judged s.store fr o) (give l)) (λ us. done (back us) s rest))

    pub run_block : Calls → ℕ → Layout → Block → Frame → State → ℕ → Outcome Flow
    run_block calls n l stop fr s left = done (goes fr) s left
    run_block calls n l (also x b) fr s left = onward (run_stmt calls n l x fr s left) (run_block calls n l b)

    -- the first case of a number
    pub run_cases : Calls → ℕ → Layout → ℕ → Cases → Frame → State → ℕ → Outcome Flow
    run_cases calls n l k end fr s left = stuck NoCase s.store
    run_cases calls n l k (case tag b cs) fr s left = cond (nat_eq k tag) (run_block calls n l b fr s left) (run_cases calls n l k cs fr s left)

  -- ---- calls of functions of the program

  abbrev pub laid_out : CTy → Layout
  laid_out = layout p.program.structs

  -- locals begin unset
  abbrev pub unset : List CDecl → Frame
  unset [] = []
  unset (d ∷ ds) = record { name = d.name; layout = laid_out d.ty; scalars = replicate (size (laid_out d.ty)) Unset } ∷ unset ds

  -- the frame that a call begins with: each argument is of its parameter's type
  abbrev pub enter : List CDecl → List CDecl → List Value → Judged Frame
  enter [] locals [] = ok (unset locals)
  enter [] locals (v ∷ vs) = no KindsDiffer
  enter (d ∷ ds) locals [] = no KindsDiffer
  enter (d ∷ ds) locals (v ∷ vs) =
      on (give (laid_out d.ty) v) (λ us. on (enter ds locals vs) (λ fr. ok (record { name = d.name; layout = laid_out d.ty; scalars = us } ∷ fr)))

  -- the scalars that a run of a body returns
  abbrev pub returned : Outcome Flow → Outcome (List Scalar)
  returned (done (goes fr) s left) = stuck NoReturn s.store
  returned (done (back us) s left) = done us s left
  returned (stuck why m) = stuck why m
  returned (needs m) = needs m
  returned astray = astray

  abbrev pub run_frame : Calls → ℕ → Function → Body → Judged Frame → State → ℕ → Outcome (List Scalar)
  run_frame calls n f b fr s left = lift s.store fr (λ fr. returned (run_block calls n (laid_out f.ty) b.block fr s left))

  abbrev pub run_body : Calls → ℕ → Function → List Value → State → ℕ → Option Body → Outcome Value
  run_body calls n f vs s left None = stuck NoBody s.store
  run_body calls n f vs s left (Some b) =
      bind (run_frame calls n f b (enter f.params b.locals vs) s left) (λ us after rest. done (typed (laid_out f.ty) us) after rest)

  abbrev pub run_function : Calls → ℕ → List Value → State → ℕ → Option Function → Outcome Value
  run_function calls n vs s left None = stuck NoFunction s.store
  run_function calls n vs s left (Some f) = run_body calls n f vs s left f.body

  -- Calls nested less than n deep, and loops of at most n turns: n above the steps that are left is always enough.
  unfoldable pub calls_in : ℕ → Calls
  calls_in zero f vs s left = needs s.store
  calls_in (suc n) f vs s left = run_function (calls_in n) n vs s left (find f p.program.functions)

  -- ---- runs

  -- The scalars of a run's argument fill the parameters in order, and are judged where they are read.
  abbrev pub filled : List CDecl → List CDecl → List Scalar → Judged Frame
  filled [] locals [] = ok (unset locals)
  filled [] locals (u ∷ us) = no KindsDiffer
  filled (d ∷ ds) locals us =
      if nat_le (size (laid_out d.ty)) (length us)
      then on (filled ds locals (drop (size (laid_out d.ty)) us)) (λ fr. ok (record { name = d.name; layout = laid_out d.ty; scalars = take (size (laid_out d.ty)) us } ∷ fr))
      else no KindsDiffer

  -- as many scalars as the parameters have slots
  abbrev pub fill : List CDecl → List Scalar → Judged (Unit {0})
  fill ds us = on (filled ds [] us) (λ fr. ok tt)

  -- an entry without a body may be an abstract function
  abbrev pub start_abstract : Function → List Scalar → State → ℕ → Option (List ℕ) → Outcome (List Scalar)
  start_abstract f us s left None = stuck NoBody s.store
  start_abstract f us s left (Some name) = answered (fill f.params us) (laid_out f.ty) s left (p.asked name us s.store)

  abbrev pub start_body : ℕ → Function → List Scalar → State → ℕ → Option Body → Outcome (List Scalar)
  start_body n f us s left None = start_abstract f us s left (linked_to f.name p.links)
  start_body n f us s left (Some b) = run_frame (calls_in n) n f b (filled f.params b.locals us) s left

  abbrev pub start : ℕ → List Scalar → State → ℕ → Option Function → Outcome (List Scalar)
  start n us s left None = stuck NoFunction s.store
  start n us s left (Some f) = start_body n f us s left f.body

  -- a run of at most n steps from a store: the scalars that a function returns, what it made and freed, and the steps that are left
  abbrev pub crun : ℕ → List ℕ → List Scalar → Stored → Outcome (List Scalar)
  crun n x us m = start n us (record { store = m; made = []; freed = [] }) n (find x p.program.functions)
