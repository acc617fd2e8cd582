-- Runs of statements that go on to their end, and how they join: exact steps, whatever steps are left behind them.
use Rattle.std.proofs.Common.{◌≡◌, ℕ, zero, suc, ◌+◌, ◌<◌, ◌≤◌, Bool, true, false, Some, None, List, [], ◌∷◌, ◌++◌, refl, sym, ap, ◌∙◌, subst, arith}
use Rattle.cg_cmachine_def.specs.BuiltIns.{BuiltIn, Given, called, make_struct}
use Rattle.cg_cmachine_def.specs.Layouts.{Layout, size, pointed}
use Rattle.cg_cmachine_def.specs.Operands.{Value, Frame, judge, judge_all}
use Rattle.cg_cmachine_def.specs.Outcomes.{ok, State, Outcome, done, stuck, needs, astray, bind, lift}
use Rattle.cg_cmachine_def.specs.Runs.{Linked, Flow, goes, back, Calls, Callee, built, abstract', own, callee, call_abstract, choose, judged_word, plain, onward, assigned, assigned_given, assigned_call, dropped_call, run_assign, run_stmt, run_block, calls_in}
use Rattle.cg_cmachine_def.specs.Targets.{Written, write}
use Rattle.cg_ctree.specs.declared.tree.COpnd.{COpnd}
use Rattle.cg_ctree.specs.declared.tree.CPath.{CPath}
use Rattle.cg_ctree.specs.declared.tree.CRhs.{CRhs}
use Rattle.cg_ctree.specs.declared.tree.CRhs.TheVariants.{Opnd, Conv, Binary, Flip, IsNull, Call, New}
use Rattle.cg_ctree.specs.declared.why.Why.TheVariants.{KindsDiffer}
use Rattle.cg_ctree.specs.Trees.{Stmt, assign, branch, call, to_block}
use Rattle.cg_heap.specs.Stored.{Stored}
use Rattle.cg_cmachine_laws.proofs.Flows.{onward_twice as onward_onward}

-- statements go on to their end in so many steps, from a frame and a state to others, wherever calls and loops may be nested as deep as
-- there are steps
pub record Runs (p : Linked) (l : Layout) (code : List Stmt) (fr : Frame) (s : State) (steps : ℕ) (fr' : Frame) (s' : State) : Type 0 where
  pub by : (m b b' : ℕ) → b ≡ steps + b' → b ≤ m → run_block p (calls_in p m) m l (to_block code) fr s b ≡ done (goes fr') s' b'

-- the state behind an assignment
abbrev pub behind : State → Written → State
behind s w = record { store = w.store; made = s.made; freed = s.freed }

-- what a call comes to, of whatever the function is; of a built-in nothing is said here
abbrev pub called_by : Linked → Callee → Calls → List ℕ → List Value → State → ℕ → Outcome Value
called_by p own calls f vs s left = calls f vs s left
called_by p (abstract' g name) calls f vs s left = call_abstract p g name vs s left
called_by p (built b) calls f vs s left = stuck KindsDiffer s.store

-- a call of a function gives a value in so many steps
pub record Answers (p : Linked) (f : List ℕ) (vs : List Value) (s : State) (steps : ℕ) (v : Value) (s' : State) : Type 0 where
  pub by : (m b b' : ℕ) → b ≡ steps + b' → b < m → called_by p (callee p f) (calls_in p m) f vs s b ≡ done v s' b'

-- a right side that is no call and makes no cell
abbrev pub is_plain : CRhs → Bool
is_plain (Call f os) = false
is_plain (New o x) = false
is_plain r = true

-- ---- how they join

-- what goes on alike
onward_same : (r : Outcome Flow) (f g : Frame → State → ℕ → Outcome Flow) → ((fr : Frame) (s : State) (b : ℕ) → f fr s b ≡ g fr s b) → onward r f ≡ onward r g
onward_same (done (goes fr) s b) f g h = h fr s b
onward_same (done (back us) s b) f g h = refl
onward_same (stuck w m) f g h = refl
onward_same (needs m) f g h = refl
onward_same astray f g h = refl

-- a block of two parts is the second behind the first
block_append : (p : Linked) (c : Calls) (n : ℕ) (l : Layout) (x y : List Stmt) (fr : Frame) (s : State) (b : ℕ)
    → run_block p c n l (to_block (x ++ y)) fr s b ≡ onward (run_block p c n l (to_block x) fr s b) (run_block p c n l (to_block y))
unfolding run_block to_block
block_append p c n l [] y fr s b = refl
block_append p c n l (z ∷ x) y fr s b =
    onward_same (run_stmt p c n l z fr s b) _ _ (λ fr s b. block_append p c n l x y fr s b)
    ∙ sym (onward_onward (run_stmt p c n l z fr s b) (run_block p c n l (to_block x)) (run_block p c n l (to_block y)))

-- a block of one statement
one_block : (p : Linked) (c : Calls) (n : ℕ) (l : Layout) (z : Stmt) (fr fr' : Frame) (s s' : State) (b b' : ℕ)
    → run_stmt p c n l z fr s b ≡ done (goes fr') s' b' → run_block p c n l (to_block (z ∷ [])) fr s b ≡ done (goes fr') s' b'
unfolding run_block to_block
one_block p c n l z fr fr' s s' b b' e = ap (λ o. onward o (run_block p c n l (to_block []))) e

-- a statement that goes on, with its own step
runs_one : (p : Linked) (l : Layout) (z : Stmt) (fr fr' : Frame) (s s' : State) (n : ℕ)
    → ((m b b' : ℕ) → b ≡ n + b' → b < m → run_stmt p (calls_in p m) m l z fr s (suc b) ≡ done (goes fr') s' b') → Runs p l (z ∷ []) fr s (suc n) fr' s'
runs_one p l z fr fr' s s' n h =
    record {
      by = λ m b b' e le.
          let q : suc (n + b') ≡ b = omega arith in
          subst (λ i. run_block p (calls_in p m) m l (to_block (z ∷ [])) fr s i ≡ done (goes fr') s' b') q
          (one_block p (calls_in p m) m l z fr fr' s s' (suc (n + b')) b' (h m (n + b') b' refl (omega arith)));
    }

-- an assignment, by what it comes to behind its own step
runs_assign : (p : Linked) (l : Layout) (to : CPath) (r : CRhs) (fr fr' : Frame) (s s' : State) (n : ℕ)
    → ((m b b' : ℕ) → b ≡ n + b' → b < m → run_assign p (calls_in p m) to r fr s b ≡ done (goes fr') s' b') → Runs p l (assign to r ∷ []) fr s (suc n) fr' s'
unfolding run_stmt
runs_assign p l to r fr fr' s s' n h = runs_one p l (assign to r) fr fr' s s' n h

-- a value that is written
assigned_is : (p : Linked) (m : Stored) (fr : Frame) (to : CPath) (v : Value) (s : State) (b : ℕ) (w : Written)
    → write p.program.structs fr s.store to v ≡ ok w → assigned p m fr to v s b ≡ done (goes w.frame) (behind s w) b
assigned_is p m fr to v s b w e = ap (λ z. lift m z (λ w. done (goes w.frame) (behind s w) b)) e

-- what needs no call, and what stands behind its value
plain_assigned : (p : Linked) (c : Calls) (to : CPath) (r : CRhs) (fr : Frame) (s : State) (v : Value) (b : ℕ) → is_plain r ≡ true
    → plain p.program.structs s.store fr r ≡ ok v → run_assign p c to r fr s b ≡ assigned p s.store fr to v s b
plain_assigned p c to (Opnd o) fr s v b is e = ap (λ z. lift s.store z (λ v. assigned p s.store fr to v s b)) e
plain_assigned p c to (Conv x o) fr s v b is e = ap (λ z. lift s.store z (λ v. assigned p s.store fr to v s b)) e
plain_assigned p c to (Binary outer inner o x y) fr s v b is e = ap (λ z. lift s.store z (λ v. assigned p s.store fr to v s b)) e
plain_assigned p c to (Flip outer inner o) fr s v b is e = ap (λ z. lift s.store z (λ v. assigned p s.store fr to v s b)) e
plain_assigned p c to (IsNull o) fr s v b is e = ap (λ z. lift s.store z (λ v. assigned p s.store fr to v s b)) e
plain_assigned p c to (Call f os) fr s v b is e = absurd (cc)
plain_assigned p c to (New o x) fr s v b is e = absurd (cc)

-- a call of a function that gives a value, and what stands behind it
call_assigned : (p : Linked) (c : Calls) (q : Callee) (fr : Frame) (to : CPath) (f : List ℕ) (vs : List Value) (s s' : State) (v : Value) (b b' : ℕ) (w : Written)
    → called_by p q c f vs s b ≡ done v s' b' → write p.program.structs fr s'.store to v ≡ ok w → assigned_call p c q fr to f vs s b ≡ done (goes w.frame) (behind s' w) b'
call_assigned p c own fr to f vs s s' v b b' w e e' =
    ap (λ o. bind o (λ v after rest. assigned p after.store fr to v after rest)) e ∙ assigned_is p s'.store fr to v s' b' w e'
call_assigned p c (abstract' g x) fr to f vs s s' v b b' w e e' =
    ap (λ o. bind o (λ v after rest. assigned p after.store fr to v after rest)) e ∙ assigned_is p s'.store fr to v s' b' w e'
call_assigned p c (built x) fr to f vs s s' v b b' w e e' = absurd (cc)

-- an assignment of what is given
given_assigned : (p : Linked) (fr : Frame) (to : CPath) (s s' : State) (v : Value) (o : Outcome Given) (b : ℕ) (w : Written)
    → o ≡ done (Some v) s' b → write p.program.structs fr s'.store to v ≡ ok w
    → bind o (λ g after rest. assigned_given p s.store fr to g after rest) ≡ done (goes w.frame) (behind s' w) b
given_assigned p fr to s s' v o b w e e' =
    ap (λ o. bind o (λ g after rest. assigned_given p s.store fr to g after rest)) e ∙ assigned_is p s.store fr to v s' b w e'

-- ---- what is owed

pub runs_none : (p : Linked) (l : Layout) (fr : Frame) (s : State) → Runs p l [] fr s 0 fr s
unfolding run_block to_block
runs_none p l fr s = record { by = λ m b b' e le. let q : b ≡ b' = omega arith in ap (done (goes fr) s) q }

pub runs_on : (p : Linked) (l : Layout) (x y : List Stmt) (a b c : Frame) (s t u : State) (i j : ℕ) → Runs p l x a s i b t → Runs p l y b t j c u → Runs p l (x ++ y) a s (i + j) c u
runs_on p l x y a b c s t u i j r q =
    record {
      by = λ m n n' e le.
          block_append p (calls_in p m) m l x y a s n
          ∙ ap (λ o. onward o (run_block p (calls_in p m) m l (to_block y))) (r.by m n (j + n') (omega arith) le)
          ∙ q.by m (j + n') n' refl (omega arith);
    }

-- an assignment of what needs no call
pub runs_plain : (p : Linked) (l : Layout) (to : CPath) (r : CRhs) (fr : Frame) (s : State) (v : Value) (w : Written) → is_plain r ≡ true
    → plain p.program.structs s.store fr r ≡ ok v → write p.program.structs fr s.store to v ≡ ok w → Runs p l (assign to r ∷ []) fr s 1 w.frame (behind s w)
runs_plain p l to r fr s v w is e e' =
    runs_assign p l to r fr w.frame s (behind s w) 0 (λ m b b' q le.
    let same : b ≡ b' = omega arith in
    plain_assigned p (calls_in p m) to r fr s v b is e ∙ assigned_is p s.store fr to v s b w e' ∙ ap (done (goes w.frame) (behind s w)) same)

-- a choice
pub runs_branch : (p : Linked) (l : Layout) (o : COpnd) (x y : List Stmt) (fr fr' : Frame) (s s' : State) (k n : ℕ)
    → judged_word p.program.structs s.store fr o ≡ ok k → Runs p l (choose k x y) fr s n fr' s' → Runs p l (branch o (to_block x) (to_block y) ∷ []) fr s (suc n) fr' s'
unfolding run_stmt
runs_branch p l o x y fr fr' s s' zero n e r =
    runs_one p l (branch o (to_block x) (to_block y)) fr fr' s s' n (λ m b b' q le. rw e (r.by m b b' q (omega arith)))
runs_branch p l o x y fr fr' s s' (suc k) n e r =
    runs_one p l (branch o (to_block x) (to_block y)) fr fr' s s' n (λ m b b' q le. rw e (r.by m b b' q (omega arith)))

-- an assignment of a call of a function
pub runs_call : (p : Linked) (l : Layout) (to : CPath) (f : List ℕ) (os : List COpnd) (fr : Frame) (s s' : State) (vs : List Value) (v : Value) (n : ℕ) (w : Written)
    → judge_all p.program.structs s.store fr os ≡ ok vs → Answers p f vs s n v s' → write p.program.structs fr s'.store to v ≡ ok w
    → Runs p l (assign to (Call f os) ∷ []) fr s (suc n) w.frame (behind s' w)
runs_call p l to f os fr s s' vs v n w e a e' =
    runs_assign p l to (Call f os) fr w.frame s (behind s' w) n (λ m b b' q le.
    ap (λ z. lift s.store z (λ vs. assigned_call p (calls_in p m) (callee p f) fr to f vs s b)) e
    ∙ call_assigned p (calls_in p m) (callee p f) fr to f vs s s' v b b' w (a.by m b b' q le) e')

-- an assignment of what a built-in gives, which takes so many steps beside its own
pub runs_built : (p : Linked) (l : Layout) (to : CPath) (f : List ℕ) (b : BuiltIn) (os : List COpnd) (fr : Frame) (s s' : State) (vs : List Value) (v : Value) (n : ℕ) (w : Written)
    → callee p f ≡ built b → judge_all p.program.structs s.store fr os ≡ ok vs → ((rest : ℕ) → called b true vs s (n + rest) ≡ done (Some v) s' rest)
    → write p.program.structs fr s'.store to v ≡ ok w → Runs p l (assign to (Call f os) ∷ []) fr s (suc n) w.frame (behind s' w)
runs_built p l to f b os fr s s' vs v n w c e h e' =
    runs_assign p l to (Call f os) fr w.frame s (behind s' w) n (λ m i i' q le.
    ap (λ z. lift s.store z (λ vs. assigned_call p (calls_in p m) (callee p f) fr to f vs s i)) e
    ∙ ap (λ z. assigned_call p (calls_in p m) z fr to f vs s i) c
    ∙ given_assigned p fr to s s' v (called b true vs s i) i' w (ap (called b true vs s) q ∙ h i') e')

-- a call of a built-in that gives no value
pub runs_done : (p : Linked) (l : Layout) (f : List ℕ) (b : BuiltIn) (os : List COpnd) (fr : Frame) (s s' : State) (vs : List Value)
    → callee p f ≡ built b → judge_all p.program.structs s.store fr os ≡ ok vs → ((rest : ℕ) → called b false vs s rest ≡ done None s' rest)
    → Runs p l (call f os ∷ []) fr s 1 fr s'
unfolding run_stmt
runs_done p l f b os fr s s' vs c e h =
    runs_one p l (call f os) fr fr s s' 0 (λ m i i' q le.
    let same : i ≡ i' = omega arith in
    ap (λ z. lift s.store z (λ vs. dropped_call p (calls_in p m) (callee p f) fr f vs s i)) e
    ∙ ap (λ z. dropped_call p (calls_in p m) z fr f vs s i) c
    ∙ ap (λ o. bind o (λ g after rest. done (goes fr) after rest)) (h i)
    ∙ ap (done (goes fr) s') same)

-- an assignment of a cell that is made
pub runs_new : (p : Linked) (l : Layout) (to : CPath) (o : COpnd) (x : List ℕ) (fr : Frame) (s s' : State) (q v : Value) (w : Written)
    → judge p.program.structs s.store fr o ≡ ok q → ((rest : ℕ) → make_struct x (size (pointed p.program.structs x)) q s rest ≡ done (Some v) s' rest)
    → write p.program.structs fr s'.store to v ≡ ok w → Runs p l (assign to (New o x) ∷ []) fr s 1 w.frame (behind s' w)
runs_new p l to o x fr s s' q v w e h e' =
    runs_assign p l to (New o x) fr w.frame s (behind s' w) 0 (λ m i i' z le.
    let same : i ≡ i' = omega arith in
    ap (λ z. lift s.store z (λ q. bind (make_struct x (size (pointed p.program.structs x)) q s i) (λ g after rest. assigned_given p s.store fr to g after rest))) e
    ∙ given_assigned p fr to s s' v (make_struct x (size (pointed p.program.structs x)) q s i) i w (h i) e'
    ∙ ap (done (goes w.frame) (behind s' w)) same)
