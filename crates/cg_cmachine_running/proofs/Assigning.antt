-- What resolved assignments and calls do is what the definition says.
use Rattle.std.proofs.Common.{◌≡◌, ℕ, ◌<◌, true, nat_eq, Some, None, List, map, length, refl, sym, ap, ◌∙◌, subst}
use Rattle.std.specs.Option.{option_map}
use Rattle.cg_base.specs.declared.kind.Word.TheVariants.{U8}
use Rattle.cg_cmachine_builtins.specs.Called.{built_in_of, into_place, state_of}
use Rattle.cg_cmachine_layout.specs.Kinds.{shape_layout}
use Rattle.cg_cmachine_running.proofs.Layers.{found_at}
use Rattle.cg_cmachine_running.proofs.Within.{right_within}
use Rattle.cg_cmachine_running.proofs.Whole.{WholeIf, WholeGiven, called_whole, new_whole, plain_whole}
use Rattle.cg_cmachine_running.specs.declared.machine.Machine.{Machine}
use Rattle.cg_cmachine_running.specs.Flat.{IsRightWithin, plain_at, put_at, word_at}
use Rattle.cg_cmachine_running.specs.Machine.{Asked, abstract_call, by_names, calls, entered, framed, function_at, landing, program, scope_at}
use Rattle.cg_cmachine_running.specs.Statements.{assigns, called_aside, called_to}
use Rattle.cg_cmachine_resolve.specs.declared.line.Callee.{Callee}
use Rattle.cg_cmachine_resolve.specs.declared.line.Callee.TheVariants as callee
use Rattle.cg_cmachine_resolve.specs.declared.line.Right.{Right}
use Rattle.cg_cmachine_resolve.specs.declared.line.Right.TheVariants as right
use Rattle.cg_cmachine_resolve.specs.Lines.{Calls as IsCalled, IsRight, IsWhole, Leads, Means}
use Rattle.cg_cmachine_resolve.specs.Resolutions.{Resolution, lines_at}
use Rattle.cg_cmachine_resolve.specs.Scopes.{Scope, frame_of, total}
use Rattle.cg_cmachine_laws.proofs.Depth.{calls_fixed}
use Rattle.cg_cmachine_def.specs.BuiltIns.{Given, called, make_struct}
use Rattle.cg_cmachine_def.specs.Layouts.{pointed, size}
use Rattle.cg_cmachine_def.specs.Operands as operands
use Rattle.cg_cmachine_def.specs.Operands.{Value, address_in, word_in}
use Rattle.cg_cmachine_def.specs.Operations.{computed, converted, flag, flipped, word_value}
use Rattle.cg_cmachine_def.specs.Outcomes.{Judged, ok, no, on, State, Outcome, done, stuck, needs, astray, bind, lift}
use Rattle.cg_cmachine_def.specs.Runs as runs
use Rattle.cg_cmachine_def.specs.Runs.{Linked, goes, assigned, assigned_call, assigned_given, call_abstract, dropped_call, find, judged_word, plain, run_assign, run_function}
use Rattle.cg_cmachine_def.specs.Targets.{Written}
use Rattle.cg_ctree.specs.declared.tree.COpnd.{COpnd}
use Rattle.cg_ctree.specs.declared.tree.CPath.{CPath}
use Rattle.cg_ctree.specs.declared.tree.CRhs.{CRhs}
use Rattle.cg_ctree.specs.declared.tree.CRhs.TheVariants.{Opnd, Conv, Binary, Flip, IsNull, Call, New}
use Rattle.cg_ctree.specs.declared.tree.CStruct.{CStruct}
use Rattle.cg_ctree.specs.declared.why.Why.TheVariants.{NoFunction}
use Rattle.cg_ctree.specs.Trees.{Block, also, assign, block_of, call, function_of}
use Rattle.cg_cmachine_values.specs.declared.place.Operand.{Operand}
use Rattle.cg_cmachine_values.specs.declared.place.Place.{Place}
use Rattle.cg_cmachine_values.specs.Values.{Changed, judged, judged_all, write_place}
use Rattle.cg_heap.specs.declared.cell.Scalar.{Scalar}
use Rattle.cg_heap.specs.Stored.{Stored}

-- what is done with a value that is judged
pub lifted : {A B : Type 0} (m : Stored) (j : Judged A) (f g : A → Outcome B) → ((a : A) → f a ≡ g a) → lift m j f ≡ lift m j g
lifted m (ok a) f g h = h a
lifted m (no why) f g h = refl

-- ---- a frame of these slots

module _ (r : Resolution) (asked : Asked) (n : ℕ) (m : Machine) (store : Stored) (many : length m.frame.slots.items ≡ total (scope_at r m.frame.at.function)) where
  abbrev structs : List CStruct
  structs = r.whole.program.structs

  abbrev scope : Scope
  scope = scope_at r m.frame.at.function

  abbrev slots : List Scalar
  slots = m.frame.slots.items

  abbrev frame : operands.Frame
  frame = framed r m.frame

  abbrev state : State
  state = state_of store m.changes

  abbrev whole : Linked
  whole = program r asked n

  -- an operand that is a word
  pub word_is : (o : COpnd) (q : Operand) → Means structs scope o q
      → judged_word structs store frame o ≡ word_at store slots q
  word_is o q d = ap (λ j. on j word_in) (d.judges store slots many)

  -- what stands on the right, beside calls and `cg_new`
  plain_is : (e : CRhs) (e' : Right) → IsRight r.whole scope e e'
      → plain structs store frame e ≡ plain_at store slots e'
  plain_is (Opnd o) (right.Operand q) d = d.judges store slots many
  plain_is (Conv k o) (right.Convert k' q) d =
      ap (λ j. on j (λ i. ok (converted k i))) (word_is o q d.1) ∙ ap (λ w. on (word_at store slots q) (λ i. ok (converted w i))) d.0
  plain_is (Binary outer inner op l r') (right.Binary outer' inner' op' q q') d =
      ap (λ j. on j (λ a. on (judged_word structs store frame r') (λ b. computed outer inner op a b))) (word_is l q d.3)
      ∙ ap (λ j. on (word_at store slots q) (λ a. on j (λ b. computed outer inner op a b))) (word_is r' q' d.4)
      ∙ ap (λ w. on (word_at store slots q) (λ a. on (word_at store slots q') (λ b. computed w inner op a b))) d.0
      ∙ ap (λ w. on (word_at store slots q) (λ a. on (word_at store slots q') (λ b. computed outer' w op a b))) d.1
      ∙ ap (λ w. on (word_at store slots q) (λ a. on (word_at store slots q') (λ b. computed outer' inner' w a b))) d.2
  plain_is (Flip outer inner o) (right.Flip outer' inner' q) d =
      ap (λ j. on j (λ i. ok (flipped outer inner i))) (word_is o q d.2)
      ∙ ap (λ w. on (word_at store slots q) (λ i. ok (flipped w inner i))) d.0
      ∙ ap (λ w. on (word_at store slots q) (λ i. ok (flipped outer' w i))) d.1
  plain_is (IsNull o) (right.IsNull q) d =
      ap (λ j. on j (λ v. on (address_in v) (λ p. ok (word_value U8 (flag (nat_eq p 0)))))) (d.judges store slots many)
  plain_is (Call f os) (right.Call c qs) d = refl
  plain_is (New o x) (right.New q name shape) d = refl
  plain_is _ _ d = absurd d

  -- an assignment of a value, in the state behind what gave it
  pub assigned_is : (t : CPath) (q : Place) → Leads structs scope t q → (v : Value) → IsWhole v → (m' : Stored) (s : State) (left : ℕ)
      → assigned whole m' frame t v s left
      ≡ by_names r asked n m.frame.at.function (into_place m' slots q (Some v) s left)
  assigned_is t q d v h m' s left =
      ap (λ j. lift {A = Written} m' j (λ w. done (goes w.frame) (record { store = w.store; made = s.made; freed = s.freed }) left)) (d.writes s.store slots v many h)
      ∙ written (write_place s.store slots q v)
    where
      written : (j : Judged Changed)
          → lift {A = Written} m' (on j (λ c. ok (record { frame = frame_of scope c.slots; store = c.store }))) (λ w. done (goes w.frame) (record { store = w.store; made = s.made; freed = s.freed }) left)
          ≡ by_names r asked n m.frame.at.function (lift {A = Changed} m' j (λ w. done w.slots (record { store = w.store; made = s.made; freed = s.freed }) left))
      written (ok c) = refl
      written (no why) = refl

  -- what is judged is assigned
  judged_goes : (t : CPath) (q : Place) → Leads structs scope t q → (j : Judged Value) → WholeIf j → (s : State) (left : ℕ)
      → lift s.store j (λ v. assigned whole s.store frame t v s left)
      ≡ by_names r asked n m.frame.at.function (lift s.store j (λ v. put_at slots q v s left))
  unfolding WholeIf
  judged_goes t q d (ok v) h s left = assigned_is t q d v h s.store s left
  judged_goes t q d (no why) h s left = refl

  -- what a built-in gives is assigned
  given_goes : (t : CPath) (q : Place) → Leads structs scope t q → (o : Outcome Given) → WholeGiven o
      → bind o (λ g after rest. assigned_given whole store frame t g after rest)
      ≡ by_names r asked n m.frame.at.function (bind o (into_place store slots q))
  unfolding WholeGiven
  given_goes t q d (done None s left) h = refl
  given_goes t q d (done (Some v) s left) h = assigned_is t q d v h store s left
  given_goes t q d (stuck why m') h = refl
  given_goes t q d (needs m') h = refl
  given_goes t q d astray h = refl

  -- an assignment of what is judged
  plain_goes : (t : CPath) (q : Place) → Leads structs scope t q → (e : CRhs) (e' : Right) → IsRight r.whole scope e e'
      → lift store (plain structs store frame e) (λ v. assigned whole store frame t v state m.left)
      ≡ by_names r asked n m.frame.at.function (lift store (plain_at store slots e') (λ v. put_at slots q v state m.left))
  plain_goes t q d e e' i =
      ap (λ j. lift store j (λ v. assigned whole store frame t v state m.left)) (plain_is e e' i)
      ∙ judged_goes t q d (plain_at store slots e')
      (plain_whole store slots e' (subst (λ k. IsRightWithin k e') (sym many) (right_within r.whole scope e e' i))) state m.left

  -- ---- calls

  -- a call of a name that is no function of the program
  missing_is : (x : List ℕ) (ws : List Value) (s : State) (left : ℕ) → left < n → find x (map function_of r.whole.program.funs) ≡ None → calls r asked n x ws s left ≡ stuck NoFunction s.store
  unfolding calls
  missing_is x ws s left h e =
      calls_fixed whole n x ws s left h ∙ ap (λ f. run_function whole (calls r asked n) n ws s left f) e

  -- a call of the function at a place
  own_is : (x : List ℕ) (i : ℕ) (f : _) (ws : List Value) (s : State) (left : ℕ) → left < n
      → function_at r i ≡ Some f → find x (map function_of r.whole.program.funs) ≡ Some (function_of f)
      → calls r asked n x ws s left ≡ entered r asked n i ws s left
  unfolding calls entered
  own_is x i f ws s left h at e =
      calls_fixed whole n x ws s left h
      ∙ ap (λ g. run_function whole (calls r asked n) n ws s left g) (e ∙ sym (ap (option_map function_of) at))

  -- a call of the abstract function that the function at a place is
  linked_is : (name : List ℕ) (i : ℕ) (f : _) (ws : List Value) (s : State) (left : ℕ) → function_at r i ≡ Some f
      → call_abstract whole (function_of f) name ws s left ≡ abstract_call r asked n (function_at r i) name ws s left
  linked_is name i f ws s left at = sym (ap (λ g. abstract_call r asked n g name ws s left) at)

  -- ---- assignments

  -- a call whose value is assigned, which stands first
  to_is : (t : CPath) (q : Place) → Leads structs scope t q → (e : CRhs) (rest : Block) → block_of (lines_at r m.frame.at) ≡ also (assign t e) rest
      → m.left < n → (f : List ℕ) (c : Callee) → IsCalled r.whole f c → (ws : List Value)
      → assigned_call whole (calls r asked n) (runs.callee whole f) frame t f ws state m.left ≡ called_to r asked n m store q c ws
  to_is t q d e rest b h f (callee.BuiltIn k) i ws =
      ap (λ y. assigned_call whole (calls r asked n) y frame t f ws state m.left) (i asked)
      ∙ given_goes t q d (called (built_in_of k) true ws state m.left) (called_whole (built_in_of k) ws state m.left)
  to_is t q d e rest b h f callee.Missing i ws =
      ap (λ y. assigned_call whole (calls r asked n) y frame t f ws state m.left) (i.0 asked)
      ∙ ap (λ o. bind o (λ v after left. assigned whole after.store frame t v after left)) (missing_is f ws state m.left h i.1)
  to_is t q d e rest b h f (callee.Own k) i ws =
      let g = found_at r.whole k _ i.1 in
      ap (λ y. assigned_call whole (calls r asked n) y frame t f ws state m.left) (i.0 asked)
      ∙ ap (λ o. bind o (λ v after left. assigned whole after.store frame t v after left)) (own_is f k g.function ws state m.left h g.at g.holds)
      ∙ ap (λ y. bind (entered r asked n k ws state m.left) (landing r asked n m.frame y)) (sym b)
  to_is t q d e rest b h f (callee.Linked k name) i ws =
      let g = found_at r.whole k _ i in
      ap (λ y. assigned_call whole (calls r asked n) y frame t f ws state m.left) (g.holds asked)
      ∙ ap (λ o. bind o (λ v after left. assigned whole after.store frame t v after left)) (linked_is name.now k g.function ws state m.left g.at)
      ∙ ap (λ y. bind (abstract_call r asked n (function_at r k) name.now ws state m.left) (landing r asked n m.frame y)) (sym b)

  -- a call whose value nobody takes, which stands first
  pub aside_is : (os : List COpnd) (rest : Block) (f : List ℕ) → block_of (lines_at r m.frame.at) ≡ also (call f os) rest
      → m.left < n → (c : Callee) → IsCalled r.whole f c → (ws : List Value)
      → dropped_call whole (calls r asked n) (runs.callee whole f) frame f ws state m.left ≡ called_aside r asked n m store c ws
  aside_is os rest f b h (callee.BuiltIn k) i ws = ap (λ y. dropped_call whole (calls r asked n) y frame f ws state m.left) (i asked)
  aside_is os rest f b h callee.Missing i ws =
      ap (λ y. dropped_call whole (calls r asked n) y frame f ws state m.left) (i.0 asked)
      ∙ ap (λ o. bind o (λ v after left. done (goes frame) after left)) (missing_is f ws state m.left h i.1)
  aside_is os rest f b h (callee.Own k) i ws =
      let g = found_at r.whole k _ i.1 in
      ap (λ y. dropped_call whole (calls r asked n) y frame f ws state m.left) (i.0 asked)
      ∙ ap (λ o. bind o (λ v after left. done (goes frame) after left)) (own_is f k g.function ws state m.left h g.at g.holds)
      ∙ ap (λ y. bind (entered r asked n k ws state m.left) (landing r asked n m.frame y)) (sym b)
  aside_is os rest f b h (callee.Linked k name) i ws =
      let g = found_at r.whole k _ i in
      ap (λ y. dropped_call whole (calls r asked n) y frame f ws state m.left) (g.holds asked)
      ∙ ap (λ o. bind o (λ v after left. done (goes frame) after left)) (linked_is name.now k g.function ws state m.left g.at)
      ∙ ap (λ y. bind (abstract_call r asked n (function_at r k) name.now ws state m.left) (landing r asked n m.frame y)) (sym b)

  -- a cell that is made, and assigned
  new_goes : (t : CPath) (q : Place) → Leads structs scope t q → (x : List ℕ) (k : ℕ) (j : Judged Value)
      → lift store j (λ v. bind (make_struct x k v state m.left) (λ g after left. assigned_given whole store frame t g after left))
      ≡ by_names r asked n m.frame.at.function (lift store j (λ v. bind (make_struct x k v state m.left) (into_place store slots q)))
  new_goes t q d x k (ok v) = given_goes t q d (make_struct x k v state m.left) (new_whole x k v state m.left)
  new_goes t q d x k (no why) = refl

  -- an assignment, which stands first
  pub assign_is : (t : CPath) (q : Place) → Leads structs scope t q → (e : CRhs) (rest : Block) → block_of (lines_at r m.frame.at) ≡ also (assign t e) rest
      → m.left < n → (e' : Right) → IsRight r.whole scope e e'
      → run_assign whole (calls r asked n) t e frame state m.left ≡ assigns r asked n m store q e'
  assign_is t q d (Opnd o) rest b h (right.Operand q') i = plain_goes t q d (Opnd o) (right.Operand q') i
  assign_is t q d (Conv k o) rest b h (right.Convert k' q') i = plain_goes t q d (Conv k o) (right.Convert k' q') i
  assign_is t q d (Binary w v op x y) rest b h (right.Binary w' v' op' x' y') i = plain_goes t q d (Binary w v op x y) (right.Binary w' v' op' x' y') i
  assign_is t q d (Flip w v o) rest b h (right.Flip w' v' q') i = plain_goes t q d (Flip w v o) (right.Flip w' v' q') i
  assign_is t q d (IsNull o) rest b h (right.IsNull q') i = plain_goes t q d (IsNull o) (right.IsNull q') i
  assign_is t q d (Call f os) rest b h (right.Call c qs) i =
      ap (λ j. lift store j (λ ws. assigned_call whole (calls r asked n) (runs.callee whole f) frame t f ws state m.left)) ((i.1).judge store slots many)
      ∙ lifted store (judged_all store slots qs.items) _ _ (to_is t q d (Call f os) rest b h f c i.0)
  assign_is t q d (New o x) rest b h (right.New q' name shape) i =
      ap (λ j. lift store j (λ v. bind (make_struct x (size (pointed structs x)) v state m.left) (λ g after left. assigned_given whole store frame t g after left)))
      ((i.0).judges store slots many)
      ∙ ap (λ l. lift store (judged store slots q') (λ v. bind (make_struct x (size l) v state m.left) (λ g after left. assigned_given whole store frame t g after left))) i.2
      ∙ ap (λ y. lift store (judged store slots q') (λ v. bind (make_struct y (size (shape_layout shape)) v state m.left) (λ g after left. assigned_given whole store frame t g after left))) i.1
      ∙ new_goes t q d name.now (size (shape_layout shape)) (judged store slots q')
  assign_is _ _ _ _ _ _ _ _ i = absurd i
