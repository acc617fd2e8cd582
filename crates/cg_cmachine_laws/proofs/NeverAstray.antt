-- A program without links never runs astray.
use Rattle.std.proofs.Common.{◌≡◌, ℕ, zero, suc, Bool, true, false, cond, nat_eq, Option, Some, None, List, [], sym, subst}
use Rattle.cg_cmachine_laws.proofs.BuiltIns.{CalmWithin, called_calm, make_struct_calm}
use Rattle.cg_cmachine_def.specs.BuiltIns.{BuiltIn, Given, built_in}
use Rattle.cg_cmachine_def.specs.Layouts.{Layout}
use Rattle.cg_cmachine_def.specs.Operands.{Value, Frame}
use Rattle.cg_cmachine_def.specs.Outcomes.{Judged, ok, no, State, Outcome, done, stuck, needs, astray, bind, lift, spend, IsCalm}
use Rattle.cg_cmachine_def.specs.Runs.{Linked, Flow, goes, back, onward, choose, find, linked_to, Calls, Callee, built, abstract', own, without_body, in_program, by_name, callee, assigned, assigned_given, assigned_call, dropped_call, run_assign, turns, run_stmt, run_block, run_cases, returned, run_frame, run_body, run_function, calls_in, start_abstract, start_body, start, crun}
use Rattle.cg_ctree.specs.declared.tree.COpnd.{COpnd}
use Rattle.cg_ctree.specs.declared.tree.CPath.{CPath}
use Rattle.cg_ctree.specs.declared.tree.CRhs.{CRhs}
use Rattle.cg_ctree.specs.declared.tree.CRhs.TheVariants.{Opnd, Conv, Binary, Flip, IsNull, Call, New}
use Rattle.cg_ctree.specs.declared.why.Why.{Why}
use Rattle.cg_ctree.specs.Trees.{Stmt, assign, branch, while, switch, call, return', Block, stop, also, Cases, end, case, Body, Function}
use Rattle.cg_heap.specs.declared.cell.Scalar.{Scalar}
use Rattle.cg_heap.specs.Stored.{Stored}

-- ---- how runs are put together

-- the run isn't astray
Calm : {A : Type 0} → Outcome A → Type 0
Calm x = IsCalm x

calm_done : {A : Type 0} (a : A) (s : State) (n : ℕ) → Calm (done a s n)
unfolding Calm
calm_done a s n = tt

calm_stuck : (A : Type 0) (why : Why) (m : Stored) → Calm {A = A} (stuck why m)
unfolding Calm
calm_stuck A why m = tt

calm_needs : (A : Type 0) (m : Stored) → Calm {A = A} (needs m)
unfolding Calm
calm_needs A m = tt

within_calm : {A : Type 0} (b : ℕ) (x : Outcome A) → CalmWithin b x → Calm x
unfolding Calm CalmWithin
within_calm b (done a s n) h = tt
within_calm b (stuck why m) h = tt
within_calm b (needs m) h = tt
within_calm b astray h = h

calm_lift : {A B : Type 0} (m : Stored) (r : Judged A) (f : A → Outcome B) → ((a : A) → Calm (f a)) → Calm (lift m r f)
unfolding Calm
calm_lift m (ok a) f h = h a
calm_lift m (no why) f h = tt

calm_spend : {A : Type 0} (m : Stored) (b : ℕ) (f : ℕ → Outcome A) → ((n : ℕ) → Calm (f n)) → Calm (spend m b f)
unfolding Calm
calm_spend m zero f h = tt
calm_spend m (suc b) f h = h b

calm_bind : {A B : Type 0} (x : Outcome A) (f : A → State → ℕ → Outcome B) → Calm x → ((a : A) (s : State) (n : ℕ) → Calm (f a s n)) → Calm (bind x f)
unfolding Calm
calm_bind (done a s n) f c h = h a s n
calm_bind (stuck why m) f c h = tt
calm_bind (needs m) f c h = tt
calm_bind astray f c h = c

calm_onward : (x : Outcome Flow) (f : Frame → State → ℕ → Outcome Flow) → Calm x → ((fr : Frame) (s : State) (n : ℕ) → Calm (f fr s n)) → Calm (onward x f)
unfolding Calm
calm_onward (done (goes fr) s n) f c h = h fr s n
calm_onward (done (back us) s n) f c h = tt
calm_onward (stuck why m) f c h = tt
calm_onward (needs m) f c h = tt
calm_onward astray f c h = c

calm_choose : {A : Type 0} (k : ℕ) (x y : Outcome A) → Calm x → Calm y → Calm (choose k x y)
calm_choose zero x y h i = i
calm_choose (suc k) x y h i = h

calm_cond : {A : Type 0} (t : Bool) (x y : Outcome A) → Calm x → Calm y → Calm (cond t x y)
calm_cond true x y h i = h
calm_cond false x y h i = i

-- ---- calls are of no abstract function

abbrev IsConcrete : Callee → Type 0
IsConcrete (built k) = Unit {0}
IsConcrete (abstract' f name) = ⊥
IsConcrete own = Unit {0}

body_concrete : (f : Function) (b : Option Body) → IsConcrete (without_body f None b)
body_concrete f None = tt
body_concrete f (Some b) = tt

found_concrete : (p : Linked) → p.links ≡ [] → (x : List ℕ) (f : Option Function) → IsConcrete (in_program p x f)
found_concrete p e x None = tt
found_concrete p e x (Some f) = subst (λ ls. IsConcrete (without_body f (linked_to x ls) f.body)) (sym e) (body_concrete f f.body)

named_concrete : (p : Linked) → p.links ≡ [] → (x : List ℕ) (k : Option BuiltIn) → IsConcrete (by_name p x k)
named_concrete p e x None = found_concrete p e x (find x p.program.functions)
named_concrete p e x (Some k) = tt

callee_concrete : (p : Linked) → p.links ≡ [] → (x : List ℕ) → IsConcrete (callee p x)
callee_concrete p e x = named_concrete p e x (built_in x)

-- ---- statements

module _ (p : Linked) (e : p.links ≡ []) (c : Calls) (n : ℕ) (l : Layout) (H : (f : List ℕ) (vs : List Value) (s : State) (b : ℕ) → Calm (c f vs s b)) where
  assigned_calm : (m : Stored) (fr : Frame) (t : CPath) (v : Value) (s : State) (b : ℕ) → Calm (assigned p m fr t v s b)
  assigned_calm m fr t v s b = calm_lift m _ _ (λ w. calm_done _ _ _)

  assigned_given_calm : (m : Stored) (fr : Frame) (t : CPath) (g : Given) (s : State) (b : ℕ) → Calm (assigned_given p m fr t g s b)
  assigned_given_calm m fr t None s b = calm_stuck _ _ _
  assigned_given_calm m fr t (Some v) s b = assigned_calm m fr t v s b

  assigned_call_calm : (k : Callee) → IsConcrete k → (fr : Frame) (t : CPath) (f : List ℕ) (vs : List Value) (s : State) (b : ℕ) → Calm (assigned_call p c k fr t f vs s b)
  assigned_call_calm own i fr t f vs s b = calm_bind _ _ (H f vs s b) (λ v after j. assigned_calm after.store fr t v after j)
  assigned_call_calm (built k) i fr t f vs s b =
      calm_bind _ _ (within_calm b _ (called_calm k true vs s b)) (λ g after j. assigned_given_calm s.store fr t g after j)
  assigned_call_calm (abstract' g name) i fr t f vs s b = absurd i

  dropped_call_calm : (k : Callee) → IsConcrete k → (fr : Frame) (f : List ℕ) (vs : List Value) (s : State) (b : ℕ) → Calm (dropped_call p c k fr f vs s b)
  dropped_call_calm own i fr f vs s b = calm_bind _ _ (H f vs s b) (λ v after j. calm_done _ after j)
  dropped_call_calm (built k) i fr f vs s b = calm_bind _ _ (within_calm b _ (called_calm k false vs s b)) (λ g after j. calm_done _ after j)
  dropped_call_calm (abstract' g name) i fr f vs s b = absurd i

  assign_calm : (t : CPath) (r : CRhs) (fr : Frame) (s : State) (b : ℕ) → Calm (run_assign p c t r fr s b)
  assign_calm t (Opnd o) fr s b = calm_lift s.store _ _ (λ v. assigned_calm s.store fr t v s b)
  assign_calm t (Conv w o) fr s b = calm_lift s.store _ _ (λ v. assigned_calm s.store fr t v s b)
  assign_calm t (Binary w v o x y) fr s b = calm_lift s.store _ _ (λ u. assigned_calm s.store fr t u s b)
  assign_calm t (Flip w v o) fr s b = calm_lift s.store _ _ (λ u. assigned_calm s.store fr t u s b)
  assign_calm t (IsNull o) fr s b = calm_lift s.store _ _ (λ v. assigned_calm s.store fr t v s b)
  assign_calm t (Call f os) fr s b = calm_lift s.store _ _ (λ vs. assigned_call_calm (callee p f) (callee_concrete p e f) fr t f vs s b)
  assign_calm t (New o x) fr s b =
      calm_lift s.store _ _ (λ v. calm_bind _ _ (within_calm b _ (make_struct_calm x _ v s b)) (λ g after j. assigned_given_calm s.store fr t g after j))

  turns_calm : (o : COpnd) (x : Frame → State → ℕ → Outcome Flow) → ((fr : Frame) (s : State) (b : ℕ) → Calm (x fr s b)) → (i : ℕ) (fr : Frame) (s : State) (b : ℕ) → Calm (turns p i o x fr s b)
  turns_calm o x h zero fr s b = calm_needs _ s.store
  turns_calm o x h (suc i) fr s b =
      calm_spend s.store b _ (λ rest. calm_lift s.store _ _ (λ k. calm_choose k _ _ (calm_onward _ _ (h fr s rest) (turns_calm o x h i)) (calm_done (goes fr) s rest)))

  mutual
    unfolding run_stmt run_block run_cases

    stmt_calm : (x : Stmt) (fr : Frame) (s : State) (b : ℕ) → Calm (run_stmt p c n l x fr s b)
    stmt_calm (assign t r) fr s b = calm_spend s.store b _ (λ rest. assign_calm t r fr s rest)
    stmt_calm (branch o x y) fr s b =
        calm_spend s.store b _ (λ rest. calm_lift s.store _ _ (λ k. calm_choose k _ _ (block_calm x fr s rest) (block_calm y fr s rest)))
    stmt_calm (while o x) fr s b = turns_calm o (run_block p c n l x) (block_calm x) n fr s b
    stmt_calm (switch o cs) fr s b = calm_spend s.store b _ (λ rest. calm_lift s.store _ _ (λ k. cases_calm k cs fr s rest))
    stmt_calm (call f os) fr s b =
        calm_spend s.store b _ (λ rest. calm_lift s.store _ _ (λ vs. dropped_call_calm (callee p f) (callee_concrete p e f) fr f vs s rest))
    stmt_calm (return' o) fr s b = calm_spend s.store b _ (λ rest. calm_lift s.store _ _ (λ us. calm_done (back us) s rest))

    block_calm : (x : Block) (fr : Frame) (s : State) (b : ℕ) → Calm (run_block p c n l x fr s b)
    block_calm stop fr s b = calm_done (goes fr) s b
    block_calm (also x xs) fr s b = calm_onward _ _ (stmt_calm x fr s b) (block_calm xs)

    cases_calm : (k : ℕ) (cs : Cases) (fr : Frame) (s : State) (b : ℕ) → Calm (run_cases p c n l k cs fr s b)
    cases_calm k end fr s b = calm_stuck _ _ _
    cases_calm k (case tag x cs) fr s b = calm_cond (nat_eq k tag) _ _ (block_calm x fr s b) (cases_calm k cs fr s b)

-- ---- functions

returned_calm : (p : Linked) (x : Outcome Flow) → Calm x → Calm (returned p x)
unfolding Calm
returned_calm p (done (goes fr) s n) h = tt
returned_calm p (done (back us) s n) h = tt
returned_calm p (stuck why m) h = tt
returned_calm p (needs m) h = tt
returned_calm p astray h = h

module _ (p : Linked) (e : p.links ≡ []) where
  frame_calm : (c : Calls) → ((f : List ℕ) (vs : List Value) (s : State) (b : ℕ) → Calm (c f vs s b)) → (n : ℕ) (f : Function) (g : Body) (fr : Judged Frame) (s : State) (b : ℕ) → Calm (run_frame p c n f g fr s b)
  frame_calm c h n f g fr s b = calm_lift s.store fr _ (λ fr'. returned_calm p _ (block_calm p e c n _ h g.block fr' s b))

  body_calm : (c : Calls) → ((f : List ℕ) (vs : List Value) (s : State) (b : ℕ) → Calm (c f vs s b)) → (n : ℕ) (f : Function) (vs : List Value) (s : State) (b : ℕ) (g : Option Body) → Calm (run_body p c n f vs s b g)
  body_calm c h n f vs s b None = calm_stuck _ _ _
  body_calm c h n f vs s b (Some g) = calm_bind _ _ (frame_calm c h n f g _ s b) (λ us after j. calm_done _ after j)

  function_calm : (c : Calls) → ((f : List ℕ) (vs : List Value) (s : State) (b : ℕ) → Calm (c f vs s b)) → (n : ℕ) (vs : List Value) (s : State) (b : ℕ) (f : Option Function) → Calm (run_function p c n vs s b f)
  function_calm c h n vs s b None = calm_stuck _ _ _
  function_calm c h n vs s b (Some f) = body_calm c h n f vs s b f.body

  calls_calm : (n : ℕ) (f : List ℕ) (vs : List Value) (s : State) (b : ℕ) → Calm (calls_in p n f vs s b)
  unfolding calls_in
  calls_calm zero f vs s b = calm_needs _ _
  calls_calm (suc n) f vs s b = function_calm (calls_in p n) (calls_calm n) n vs s b (find f p.program.functions)

  abstract_calm : (f : Function) (us : List Scalar) (s : State) (b : ℕ) → Calm (start_abstract p f us s b (linked_to f.name p.links))
  abstract_calm f us s b = subst (λ ls. Calm (start_abstract p f us s b (linked_to f.name ls))) (sym e) (calm_stuck _ _ _)

  entry_calm : (n : ℕ) (f : Function) (us : List Scalar) (s : State) (b : ℕ) (g : Option Body) → Calm (start_body p n f us s b g)
  entry_calm n f us s b None = abstract_calm f us s b
  entry_calm n f us s b (Some g) = frame_calm (calls_in p n) (calls_calm n) n f g _ s b

  start_calm : (n : ℕ) (us : List Scalar) (s : State) (b : ℕ) (f : Option Function) → Calm (start p n us s b f)
  start_calm n us s b None = calm_stuck _ _ _
  start_calm n us s b (Some f) = entry_calm n f us s b f.body

-- No run of a program without links is astray.
pub never_astray : (p : Linked) → p.links ≡ [] → (n : ℕ) (x : List ℕ) (us : List Scalar) (m : Stored) → IsCalm (crun p n x us m)
unfolding Calm
never_astray p e n x us m = start_calm p e n us (record { store = m; made = []; freed = [] }) n (find x p.program.functions)
