-- What resolved statements do is what the definition says.
use Rattle.std.proofs.Common.{◌≡◌, ℕ, zero, suc, ◌<◌, Bool, true, false, cond, nat_eq, Some, List, [], ◌∷◌, map, length, slice_get, refl, sym, ap, ◌∙◌, subst}
use Rattle.cg_cmachine_builtins.specs.Called.{state_of}
use Rattle.cg_cmachine_layout.specs.Kinds.{layout_of}
use Rattle.cg_cmachine_running.proofs.Assigning.{aside_is, assign_is, lifted, word_is}
use Rattle.cg_cmachine_running.proofs.Layers.{case_is, form_of, stmt_is, stands_here, block_lines}
use Rattle.cg_cmachine_running.proofs.Within.{does_within}
use Rattle.cg_cmachine_running.specs.declared.machine.Machine.{Machine}
use Rattle.cg_cmachine_running.specs.Flat.{IsActionWithin, first_case, word_at}
use Rattle.cg_cmachine_running.specs.Machine.{Asked, IsFrame, block, calls, framed, inner, inner_case, lay_at, program, scope_at, turned}
use Rattle.cg_cmachine_running.specs.Statements.{acts}
use Rattle.cg_cmachine_resolve.specs.declared.code.Position.{Position}
use Rattle.cg_cmachine_resolve.specs.declared.line.Action.{Action}
use Rattle.cg_cmachine_resolve.specs.declared.line.Action.TheVariants as action
use Rattle.cg_cmachine_resolve.specs.declared.line.Line.{Line}
use Rattle.cg_cmachine_resolve.specs.Lines.{AreCases, DoesForm, IsBlock, Means}
use Rattle.cg_cmachine_resolve.specs.Resolutions.{Resolution, IsLine, blocks_in, lines_at, next}
use Rattle.cg_cmachine_resolve.specs.Scopes.{Scope, total}
use Rattle.cg_cmachine_laws.proofs.Depth.{turns_fixed}
use Rattle.cg_cmachine_def.specs.Layouts.{Layout}
use Rattle.cg_cmachine_def.specs.Operands as operands
use Rattle.cg_cmachine_def.specs.Operands.{give}
use Rattle.cg_cmachine_def.specs.Outcomes.{Judged, ok, no, on, State, Outcome, done, needs, lift}
use Rattle.cg_cmachine_def.specs.Runs as runs
use Rattle.cg_cmachine_def.specs.Runs.{Linked, goes, back, onward, choose, dropped_call, run_block, run_cases, run_stmt, turns}
use Rattle.cg_ctree.specs.declared.tree.CCase.{CCase}
use Rattle.cg_ctree.specs.declared.tree.COpnd.{COpnd}
use Rattle.cg_ctree.specs.declared.tree.CStmt.{CStmt, CStmt-F, out-CStmt}
use Rattle.cg_ctree.specs.declared.tree.CStmt.TheOpen as form
use Rattle.cg_ctree.specs.declared.tree.CStruct.{CStruct}
use Rattle.cg_ctree.specs.Trees.{Stmt, also, assign, block_of, branch, call, case, case_of, return', switch, to_block, to_cases, while}
use Rattle.cg_cmachine_values.specs.declared.place.Operand.{Operand}
use Rattle.cg_cmachine_values.specs.Values.{judged, judged_all}
use Rattle.cg_heap.specs.declared.cell.Scalar.{Scalar}
use Rattle.cg_heap.specs.Stored.{Stored}
use Rattle.cg_cmachine_laws.proofs.Flows.{onward_twice}

-- ---- the statements at a place

-- the first by its form, and those behind it
pub form_here : (r : Resolution) (at : Position) (line : Line) → IsLine r at line
    → block_of (lines_at r at) ≡ also (form_of (out-CStmt line.source.now)) (block_of (lines_at r (next at)))
unfolding to_block
form_here r at line h = ap block_of h.here ∙ ap (λ s. also s (block_of (lines_at r (next at)))) (stmt_is line.source.now)

module _ (r : Resolution) (asked : Asked) (n : ℕ) where
  pub opened : (at : Position) (x : Stmt) → block_of (lines_at r at) ≡ also x (block_of (lines_at r (next at))) → (fr : operands.Frame) (s : State) (left : ℕ)
      → block r asked n at fr s left ≡ onward (run_stmt (program r asked n) (calls r asked n) n (lay_at r at.function) x fr s left) (block r asked n (next at))
  unfolding block run_block
  opened at x b fr s left = ap (λ z. run_block (program r asked n) (calls r asked n) n (lay_at r at.function) z fr s left) b

  -- the block of a number
  block_is : (f b : ℕ) (ss : List CStmt) → slice_get (blocks_in r f) b ≡ Some ss
      → block r asked n (record { function = f; block = b; index = 0 }) ≡ run_block (program r asked n) (calls r asked n) n (lay_at r f) (block_of ss)
  unfolding block
  block_is f b ss e = ap (λ z. run_block (program r asked n) (calls r asked n) n (lay_at r f) (block_of z)) (block_lines r f b ss e)

  -- no statement
  pub block_none : (at : Position) (fr : operands.Frame) (s : State) (left : ℕ) → lines_at r at ≡ [] → block r asked n at fr s left ≡ done (goes fr) s left
  unfolding block run_block to_block
  block_none at fr s left e = ap (λ z. run_block (program r asked n) (calls r asked n) n (lay_at r at.function) (block_of z) fr s left) e

  -- a statement needs a step
  stmt_needs : (l : Layout) (x : Stmt) (fr : operands.Frame) (s : State) → run_stmt (program r asked n) (calls r asked n) n l x fr s 0 ≡ needs s.store
  unfolding run_stmt
  stmt_needs l (assign t e) fr s = refl
  stmt_needs l (branch o x y) fr s = refl
  stmt_needs l (while o x) fr s = by_depth n
    where
      by_depth : (k : ℕ) → turns (program r asked n) k o (run_block (program r asked n) (calls r asked n) n l x) fr s 0 ≡ needs s.store
      by_depth zero = refl
      by_depth (suc k) = refl
  stmt_needs l (switch o cs) fr s = refl
  stmt_needs l (call f os) fr s = refl
  stmt_needs l (return' o) fr s = refl

  pub block_needs : (at : Position) (line : Line) (fr : operands.Frame) (s : State) → IsLine r at line → block r asked n at fr s 0 ≡ needs s.store
  block_needs at line fr s h =
      opened at (form_of (out-CStmt line.source.now)) (form_here r at line h) fr s 0
      ∙ ap (λ o. onward o (block r asked n (next at))) (stmt_needs (lay_at r at.function) (form_of (out-CStmt line.source.now)) fr s)

-- ---- forms

module _ (r : Resolution) (asked : Asked) (n : ℕ) (m : Machine) (store : Stored) (many : length m.frame.slots.items ≡ total (scope_at r m.frame.at.function)) where
  abbrev structs : List CStruct
  structs = r.whole.program.structs

  abbrev scope : Scope
  scope = scope_at r m.frame.at.function

  abbrev blocks : List (List CStmt)
  blocks = blocks_in r m.frame.at.function

  abbrev lay : Layout
  lay = lay_at r m.frame.at.function

  abbrev slots : List Scalar
  slots = m.frame.slots.items

  abbrev frame : operands.Frame
  frame = framed r m.frame

  abbrev state : State
  state = state_of store m.changes

  abbrev whole : Linked
  whole = program r asked n

  abbrev within : List CStmt → operands.Frame → State → ℕ → Outcome runs.Flow
  within ss = run_block whole (calls r asked n) n lay (block_of ss)

  -- a block that is named by its number
  inner_is : (b : ℕ) (ss : List CStmt) → IsBlock r.whole scope blocks b ss → within ss frame state m.left ≡ inner r asked n m store b
  inner_is b ss e = sym (ap (λ f. f frame state m.left) (block_is r asked n m.frame.at.function b ss e))

  if_is : (o : COpnd) (x y : List CStmt) (q : Operand) (i j : ℕ) → Means structs scope o q → IsBlock r.whole scope blocks i x → IsBlock r.whole scope blocks j y
      → run_stmt whole (calls r asked n) n lay (branch o (block_of x) (block_of y)) frame state (suc m.left)
      ≡ lift store (word_at store slots q) (λ k. choose k (inner r asked n m store i) (inner r asked n m store j))
  unfolding run_stmt
  if_is o x y q i j d e f =
      ap (λ z. lift store z (λ k. choose k (within x frame state m.left) (within y frame state m.left))) (word_is r asked n m store many o q d)
      ∙ ap (λ z. lift store (word_at store slots q) (λ k. choose k z (within y frame state m.left))) (inner_is i x e)
      ∙ ap (λ z. lift store (word_at store slots q) (λ k. choose k (inner r asked n m store i) z)) (inner_is j y f)

  cases_are : (cs : List CCase) (es : List (ℕ × ℕ)) → AreCases r.whole scope blocks cs es → (k : ℕ)
      → run_cases whole (calls r asked n) n lay k (to_cases (map case_of cs)) frame state m.left ≡ inner_case r asked n m store (first_case k es)
  unfolding run_cases to_cases
  cases_are [] [] d k = refl
  cases_are (c ∷ cs) (e ∷ es) d k =
      ap (λ z. run_cases whole (calls r asked n) n lay k (case z.tag z.body (to_cases (map case_of cs))) frame state m.left) (case_is c)
      ∙ ap (λ t. cond (nat_eq k t) (within c.body frame state m.left) (run_cases whole (calls r asked n) n lay k (to_cases (map case_of cs)) frame state m.left)) d.0
      ∙ by_test (nat_eq k e.0) (cases_are cs es d.2 k)
    where
      by_test : (t : Bool) → run_cases whole (calls r asked n) n lay k (to_cases (map case_of cs)) frame state m.left ≡ inner_case r asked n m store (first_case k es)
          → cond t (within c.body frame state m.left) (run_cases whole (calls r asked n) n lay k (to_cases (map case_of cs)) frame state m.left)
          ≡ inner_case r asked n m store (cond t (Some e.1) (first_case k es))
      by_test true h = inner_is e.1 c.body d.1
      by_test false h = h
  cases_are _ _ d k = absurd d

  switch_is : (o : COpnd) (cs : List CCase) (q : Operand) (es : List (ℕ × ℕ)) → Means structs scope o q → AreCases r.whole scope blocks cs es
      → run_stmt whole (calls r asked n) n lay (switch o (to_cases (map case_of cs))) frame state (suc m.left)
      ≡ lift store (word_at store slots q) (λ k. inner_case r asked n m store (first_case k es))
  unfolding run_stmt
  switch_is o cs q es d e =
      ap (λ z. lift store z (λ k. run_cases whole (calls r asked n) n lay k (to_cases (map case_of cs)) frame state m.left)) (word_is r asked n m store many o q d)
      ∙ lifted store (word_at store slots q) _ _ (cases_are cs es e)

  return_is : (o : COpnd) (q : Operand) → Means structs scope o q → layout_of m.frame.kind ≡ lay
      → run_stmt whole (calls r asked n) n lay (return' o) frame state (suc m.left)
      ≡ lift store (on (judged store slots q) (give (layout_of m.frame.kind))) (λ us. done (back us) state m.left)
  unfolding run_stmt
  return_is o q d e =
      ap (λ j. lift store (on j (give lay)) (λ us. done (back us) state m.left)) (d.judges store slots many)
      ∙ ap (λ l. lift store (on (judged store slots q) (give l)) (λ us. done (back us) state m.left)) (sym e)

  -- a loop, which stands first: behind a turn it stands first again
  again : (o : COpnd) (x : List CStmt) → block_of (lines_at r m.frame.at) ≡ also (while o (block_of x)) (block_of (lines_at r (next m.frame.at)))
      → ◌≡◌ {A = operands.Frame → State → ℕ → Outcome runs.Flow} (λ fr s left. onward (turns whole n o (within x) fr s left) (block r asked n (next m.frame.at))) (block r asked n m.frame.at)
  unfolding block run_block run_stmt
  again o x b = sym (ap (λ z. run_block whole (calls r asked n) n lay z) b)

  while_is : (o : COpnd) (x : List CStmt) (q : Operand) (i : ℕ) → Means structs scope o q → IsBlock r.whole scope blocks i x
      → block_of (lines_at r m.frame.at) ≡ also (while o (block_of x)) (block_of (lines_at r (next m.frame.at))) → m.left < n
      → block r asked n m.frame.at frame state (suc m.left) ≡ lift store (word_at store slots q) (turned r asked n m store i)
  unfolding calls run_stmt
  while_is o x q i d e b h =
      opened r asked n m.frame.at (while o (block_of x)) b frame state (suc m.left)
      ∙ ap (λ z. onward z (block r asked n (next m.frame.at))) (turns_fixed whole n lay o (block_of x) frame state m.left h
      ∙ ap (λ j. lift store j (λ k. choose k (onward (within x frame state m.left) (turns whole n o (within x))) (done (goes frame) state m.left))) (word_is r asked n m store many o q d))
      ∙ by_word (word_at store slots q)
    where
      by_word : (j : Judged ℕ)
          → onward (lift store j (λ k. choose k (onward (within x frame state m.left) (turns whole n o (within x))) (done (goes frame) state m.left))) (block r asked n (next m.frame.at))
          ≡ lift store j (turned r asked n m store i)
      by_word (no why) = refl
      by_word (ok zero) = refl
      by_word (ok (suc k)) =
          onward_twice (within x frame state m.left) (turns whole n o (within x)) (block r asked n (next m.frame.at))
          ∙ ap (onward (within x frame state m.left)) (again o x b)
          ∙ ap (λ z. onward z (block r asked n m.frame.at)) (inner_is i x e)

  call_is : (f : List ℕ) (os : List COpnd) (a : Action) → DoesForm r.whole scope blocks (form.Call f os) a
      → block_of (lines_at r m.frame.at) ≡ also (call f os) (block_of (lines_at r (next m.frame.at))) → m.left < n
      → acts r asked n m store a ≡ block r asked n m.frame.at frame state (suc m.left)
  unfolding run_stmt
  call_is f os (action.Call c qs) d b h =
      sym (opened r asked n m.frame.at (call f os) b frame state (suc m.left)
      ∙ ap (λ z. onward z (block r asked n (next m.frame.at)))
      (ap (λ j. lift store j (λ ws. dropped_call whole (calls r asked n) (runs.callee whole f) frame f ws state m.left)) ((d.1).judge store slots many)
      ∙ lifted store (judged_all store slots qs.items) _ _ (aside_is r asked n m store many os (block_of (lines_at r (next m.frame.at))) f b h c d.0)))
  call_is f os _ d b h = absurd d

  -- an action does what its form of statement does
  does : (f : CStmt-F CStmt CCase) (a : Action) → DoesForm r.whole scope blocks f a
      → block_of (lines_at r m.frame.at) ≡ also (form_of f) (block_of (lines_at r (next m.frame.at))) → layout_of m.frame.kind ≡ lay → m.left < n
      → acts r asked n m store a ≡ block r asked n m.frame.at frame state (suc m.left)
  unfolding run_stmt
  does (form.Assign t e) (action.Assign q e') d b k h =
      sym (opened r asked n m.frame.at (assign t e) b frame state (suc m.left)
      ∙ ap (λ z. onward z (block r asked n (next m.frame.at))) (assign_is r asked n m store many t q d.0 e (block_of (lines_at r (next m.frame.at))) b h e' d.1))
  does (form.If o x y) (action.If q i j) d b k h =
      sym (opened r asked n m.frame.at (branch o (block_of x) (block_of y)) b frame state (suc m.left)
      ∙ ap (λ z. onward z (block r asked n (next m.frame.at))) (if_is o x y q i j d.0 d.1 d.2))
  does (form.While o x) (action.While q i) d b k h = sym (while_is o x q i d.0 d.1 b h)
  does (form.Switch o cs) (action.Switch q es) d b k h =
      sym (opened r asked n m.frame.at (switch o (to_cases (map case_of cs))) b frame state (suc m.left)
      ∙ ap (λ z. onward z (block r asked n (next m.frame.at))) (switch_is o cs q es.items d.0 d.1))
  does (form.Call f os) a d b k h = call_is f os a d b h
  does (form.Return o) (action.Return q) d b k h =
      sym (opened r asked n m.frame.at (return' o) b frame state (suc m.left)
      ∙ ap (λ z. onward z (block r asked n (next m.frame.at))) (return_is o q d k))
  does _ _ d b k h = absurd d

-- ---- lines

-- A line does what the definition says of the statement at its place.
pub stands_acts : (r : Resolution) (asked : Asked) (n : ℕ) (m : Machine) (store : Stored) (line : Line) → IsLine r m.frame.at line → IsFrame r m.frame → m.left < n
    → acts r asked n m store line.action ≡ block r asked n m.frame.at (framed r m.frame) (state_of store m.changes) (suc m.left)
stands_acts r asked n m store line h k i =
    does r asked n m store k.many (out-CStmt line.source.now) line.action (stands_here r m.frame.at line h) (form_here r m.frame.at line h) k.result i

-- Its operands stand within the frame.
pub stands_within : (r : Resolution) (m : Machine) (line : Line) → IsLine r m.frame.at line → IsFrame r m.frame → IsActionWithin (length m.frame.slots.items) line.action
stands_within r m line h k =
    subst (λ i. IsActionWithin i line.action) (sym k.many)
    (does_within r.whole (scope_at r m.frame.at.function) (blocks_in r m.frame.at.function) (out-CStmt line.source.now) line.action (stands_here r m.frame.at line h))
