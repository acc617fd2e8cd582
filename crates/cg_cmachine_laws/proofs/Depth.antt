-- Any depth above the steps that are left gives the same run.
use Rattle.std.proofs.Common.{◌≡◌, ℕ, zero, suc, ◌<◌, ◌≤◌, ◌-◌, Bool, true, false, cond, nat_eq, nat_lt, Option, Some, None, List, refl, subst, arith}
use Rattle.cg_cmachine_laws.proofs.BuiltIns.{CalmWithin, called_calm, make_struct_calm}
use Rattle.cg_cmachine_def.specs.BuiltIns.{Given}
use Rattle.cg_cmachine_def.specs.Layouts.{Layout}
use Rattle.cg_cmachine_def.specs.Operands.{Value, Frame}
use Rattle.cg_cmachine_def.specs.Outcomes.{Judged, ok, no, State, Outcome, done, stuck, needs, astray, bind, lift, spend, spend_for}
use Rattle.cg_cmachine_def.specs.Runs.{Linked, Flow, goes, back, onward, choose, judged_word, find, Calls, Callee, built, abstract', own, callee, state_behind, has_size, answered, call_abstract, assigned, assigned_given, assigned_call, dropped_call, run_assign, turns, run_stmt, run_block, run_cases, enter, returned, run_frame, run_body, run_function, calls_in}
use Rattle.cg_ctree.specs.declared.tree.COpnd.{COpnd}
use Rattle.cg_ctree.specs.declared.tree.CPath.{CPath}
use Rattle.cg_ctree.specs.declared.tree.CRhs.{CRhs}
use Rattle.cg_ctree.specs.declared.tree.CRhs.TheVariants.{Opnd, Conv, Binary, Flip, IsNull, Call, New}
use Rattle.cg_ctree.specs.declared.why.Why.{Why}
use Rattle.cg_ctree.specs.declared.why.Why.TheVariants.{NoFunction, NoBody, NoCase}
use Rattle.cg_ctree.specs.Trees.{Stmt, assign, branch, while, switch, call, return', Block, stop, also, Cases, end, case, Body, Function}
use Rattle.cg_heap.specs.Calls.{Answer}
use Rattle.cg_heap.specs.Stored.{Stored}

-- no more steps are left than there were
unfoldable pub Left : {A : Type 0} → ℕ → Outcome A → Type 0
Left b (done a s c) = c ≤ b
Left b (stuck why m) = Unit {0}
Left b (needs m) = Unit {0}
Left b astray = Unit {0}

pub record Alike {A : Type 0} (b : ℕ) (x y : Outcome A) : Type 0 where
  pub same : x ≡ y
  pub left : Left b x

-- ---- steps that are left

left_done : {A : Type 0} (b : ℕ) (a : A) (s : State) (n : ℕ) → n ≤ b → Left b (done a s n)
unfolding Left
left_done b a s n h = h

left_stuck : (A : Type 0) (b : ℕ) (why : Why) (m : Stored) → Left {A = A} b (stuck why m)
unfolding Left
left_stuck A b why m = tt

left_needs : (A : Type 0) (b : ℕ) (m : Stored) → Left {A = A} b (needs m)
unfolding Left
left_needs A b m = tt

left_astray : (A : Type 0) (b : ℕ) → Left {A = A} b astray
unfolding Left
left_astray A b = tt

left_more : {A : Type 0} (b c : ℕ) (r : Outcome A) → b ≤ c → Left b r → Left c r
unfolding Left
left_more b c (done a s n) h l = omega arith
left_more b c (stuck why m) h l = tt
left_more b c (needs m) h l = tt
left_more b c astray h l = tt

left_calm : {A : Type 0} (b : ℕ) (r : Outcome A) → CalmWithin b r → Left b r
unfolding Left CalmWithin
left_calm b (done a s n) h = h
left_calm b (stuck why m) h = tt
left_calm b (needs m) h = tt
left_calm b astray h = tt

left_bind : {A B : Type 0} (b : ℕ) (x : Outcome A) (f : A → State → ℕ → Outcome B) → Left b x → ((a : A) (s : State) (n : ℕ) → n ≤ b → Left n (f a s n)) → Left b (bind x f)
unfolding Left
left_bind b (done a s n) f l h = left_more n b (f a s n) l (h a s n l)
left_bind b (stuck why m) f l h = tt
left_bind b (needs m) f l h = tt
left_bind b astray f l h = tt

left_lift : {A B : Type 0} (b : ℕ) (m : Stored) (r : Judged A) (f : A → Outcome B) → ((a : A) → Left b (f a)) → Left b (lift m r f)
left_lift b m (ok a) f h = h a
left_lift b m (no why) f h = left_stuck _ b why m

left_spend_for : {A : Type 0} (b : ℕ) (m : Stored) (cost : ℕ) (f : ℕ → Outcome A) → ((n : ℕ) → n ≤ b → Left b (f n)) → Left b (spend_for m cost b f)
unfolding Left
left_spend_for b m cost f h = by_test (nat_lt b cost)
  where
    by_test : (t : Bool) → Left b (cond t (needs m) (f (b - cost)))
    by_test true = tt
    by_test false = h (b - cost) (omega arith)

answered_left : (agrees : Judged (Unit {0})) (l : Layout) (s : State) (b : ℕ) (a : Option Answer) → Left b (answered agrees l s b a)
answered_left agrees l s b None = left_astray _ b
answered_left agrees l s b (Some a) = left_lift b s.store _ _ (λ u. left_spend_for b s.store a.cost (λ rest. lift a.out.store (has_size l a.out.result) (λ _. done a.out.result (state_behind s a.out) rest)) (λ n h. left_lift b a.out.store _ _ (λ _. left_done b _ _ n h)))

call_abstract_left : (p : Linked) (f : Function) (name : List ℕ) (vs : List Value) (s : State) (b : ℕ) → Left b (call_abstract p f name vs s b)
call_abstract_left p f name vs s b =
    left_bind b _ _ (answered_left _ _ s b _) (λ us after n h. left_lift n after.store _ _ (λ v. left_done n _ _ n (omega arith)))

assigned_left : (p : Linked) (m : Stored) (fr : Frame) (t : CPath) (v : Value) (s : State) (b : ℕ) → Left b (assigned p m fr t v s b)
assigned_left p m fr t v s b = left_lift b m _ _ (λ w. left_done b _ _ b (omega arith))

assigned_given_left : (p : Linked) (m : Stored) (fr : Frame) (t : CPath) (g : Given) (s : State) (b : ℕ) → Left b (assigned_given p m fr t g s b)
assigned_given_left p m fr t None s b = left_stuck _ b _ _
assigned_given_left p m fr t (Some v) s b = assigned_left p m fr t v s b

-- ---- runs that are alike

alike_more : {A : Type 0} (b c : ℕ) (x y : Outcome A) → b ≤ c → Alike b x y → Alike c x y
alike_more b c x y h a = record { same = a.same; left = left_more b c x h a.left }

alike_refl : {A : Type 0} (b : ℕ) (x : Outcome A) → Left b x → Alike b x x
alike_refl b x l = record { same = refl; left = l }

alike_done : {A : Type 0} (b : ℕ) (a : A) (s : State) (n : ℕ) → n ≤ b → Alike b (done a s n) (done a s n)
alike_done b a s n h = alike_refl b (done a s n) (left_done b a s n h)

alike_stuck : {A : Type 0} (b : ℕ) (why : Why) (m : Stored) → Alike {A = A} b (stuck why m) (stuck why m)
alike_stuck b why m = alike_refl b (stuck why m) (left_stuck _ b why m)

alike_needs : {A : Type 0} (b : ℕ) (m : Stored) → Alike {A = A} b (needs m) (needs m)
alike_needs b m = alike_refl b (needs m) (left_needs _ b m)

alike_astray : {A : Type 0} (b : ℕ) → Alike {A = A} b astray astray
alike_astray b = alike_refl b astray (left_astray _ b)

alike_onward : (b : ℕ) (x y : Outcome Flow) (f g : Frame → State → ℕ → Outcome Flow) → Alike b x y → ((fr : Frame) (s : State) (n : ℕ) → n ≤ b → Alike n (f fr s n) (g fr s n)) → Alike b (onward x f) (onward y g)
unfolding Left
alike_onward b x y f g a h = subst (λ z. Alike b (onward x f) (onward z g)) a.same (go x a.left)
  where
    go : (x : Outcome Flow) → Left b x → Alike b (onward x f) (onward x g)
    go (done (goes fr) s n) l = alike_more n b _ _ l (h fr s n l)
    go (done (back us) s n) l = alike_done b (back us) s n l
    go (stuck why m) l = alike_stuck b why m
    go (needs m) l = alike_needs b m
    go astray l = alike_astray b

alike_bind : {A B : Type 0} (b : ℕ) (x y : Outcome A) (f g : A → State → ℕ → Outcome B) → Alike b x y → ((a : A) (s : State) (n : ℕ) → n ≤ b → Alike n (f a s n) (g a s n)) → Alike b (bind x f) (bind y g)
unfolding Left
alike_bind b x y f g a h = subst (λ z. Alike b (bind x f) (bind z g)) a.same (go x a.left)
  where
    go : (x : Outcome _) → Left b x → Alike b (bind x f) (bind x g)
    go (done a s n) l = alike_more n b _ _ l (h a s n l)
    go (stuck why m) l = alike_stuck b why m
    go (needs m) l = alike_needs b m
    go astray l = alike_astray b

alike_lift : {A B : Type 0} (b : ℕ) (m : Stored) (r : Judged A) (f g : A → Outcome B) → ((a : A) → Alike b (f a) (g a)) → Alike b (lift m r f) (lift m r g)
alike_lift b m (ok a) f g h = h a
alike_lift b m (no why) f g h = alike_stuck b why m

alike_spend : {A : Type 0} (b : ℕ) (m : Stored) (f g : ℕ → Outcome A) → ((n : ℕ) → suc n ≡ b → Alike n (f n) (g n)) → Alike b (spend m b f) (spend m b g)
alike_spend zero m f g h = alike_needs 0 m
alike_spend (suc b) m f g h = alike_more b (suc b) (f b) (g b) (omega arith) (h b refl)

alike_choose : {A : Type 0} (b k : ℕ) (x y x' y' : Outcome A) → Alike b x x' → Alike b y y' → Alike b (choose k x y) (choose k x' y')
alike_choose b zero x y x' y' h i = i
alike_choose b (suc k) x y x' y' h i = h

alike_cond : {A : Type 0} (b : ℕ) (t : Bool) (x y x' y' : Outcome A) → Alike b x x' → Alike b y y' → Alike b (cond t x y) (cond t x' y')
alike_cond b true x y x' y' h k = h
alike_cond b false x y x' y' h k = k

module _ (p : Linked) (c d : Calls) (m n : ℕ) (l : Layout) (H : (f : List ℕ) (vs : List Value) (s : State) (b : ℕ) → b < m → b < n → Alike b (c f vs s b) (d f vs s b)) where
  assigned_call_alike : (k : Callee) (fr : Frame) (t : CPath) (f : List ℕ) (vs : List Value) (s : State) (b : ℕ) → b < m → b < n → Alike b (assigned_call p c k fr t f vs s b) (assigned_call p d k fr t f vs s b)
  assigned_call_alike own fr t f vs s b h i =
      alike_bind b _ _ _ _ (H f vs s b h i) (λ v after j q. alike_refl j _ (assigned_left p after.store fr t v after j))
  assigned_call_alike (built k) fr t f vs s b h i =
      alike_refl b _ (left_bind b _ _ (left_calm b _ (called_calm k true vs s b)) (λ g after j q. assigned_given_left p s.store fr t g after j))
  assigned_call_alike (abstract' g name) fr t f vs s b h i =
      alike_refl b _ (left_bind b _ _ (call_abstract_left p g name vs s b) (λ v after j q. assigned_left p after.store fr t v after j))

  dropped_call_alike : (k : Callee) (fr : Frame) (f : List ℕ) (vs : List Value) (s : State) (b : ℕ) → b < m → b < n → Alike b (dropped_call p c k fr f vs s b) (dropped_call p d k fr f vs s b)
  dropped_call_alike own fr f vs s b h i =
      alike_bind b _ _ _ _ (H f vs s b h i) (λ v after j q. alike_done j (goes fr) after j (omega arith))
  dropped_call_alike (built k) fr f vs s b h i =
      alike_refl b _ (left_bind b _ _ (left_calm b _ (called_calm k false vs s b)) (λ g after j q. left_done j _ _ j (omega arith)))
  dropped_call_alike (abstract' g name) fr f vs s b h i =
      alike_refl b _ (left_bind b _ _ (call_abstract_left p g name vs s b) (λ v after j q. left_done j _ _ j (omega arith)))

  assign_alike : (t : CPath) (r : CRhs) (fr : Frame) (s : State) (b : ℕ) → b < m → b < n → Alike b (run_assign p c t r fr s b) (run_assign p d t r fr s b)
  assign_alike t (Opnd o) fr s b h i = alike_refl b _ (left_lift b s.store _ _ (λ v. assigned_left p s.store fr t v s b))
  assign_alike t (Conv w o) fr s b h i = alike_refl b _ (left_lift b s.store _ _ (λ v. assigned_left p s.store fr t v s b))
  assign_alike t (Binary w v o x y) fr s b h i = alike_refl b _ (left_lift b s.store _ _ (λ u. assigned_left p s.store fr t u s b))
  assign_alike t (Flip w v o) fr s b h i = alike_refl b _ (left_lift b s.store _ _ (λ u. assigned_left p s.store fr t u s b))
  assign_alike t (IsNull o) fr s b h i = alike_refl b _ (left_lift b s.store _ _ (λ v. assigned_left p s.store fr t v s b))
  assign_alike t (Call f os) fr s b h i = alike_lift b s.store _ _ _ (λ vs. assigned_call_alike (callee p f) fr t f vs s b h i)
  assign_alike t (New o x) fr s b h i =
      alike_refl b _ (left_lift b s.store _ _ (λ v. left_bind b _ _ (left_calm b _ (make_struct_calm x _ v s b)) (λ g after j q. assigned_given_left p s.store fr t g after j)))

  turns_alike : (o : COpnd) (x y : Frame → State → ℕ → Outcome Flow) → ((fr : Frame) (s : State) (b : ℕ) → b ≤ m → b ≤ n → Alike b (x fr s b) (y fr s b)) → (i j : ℕ) (fr : Frame) (s : State) (b : ℕ) → b ≤ m → b ≤ n → b ≤ i → b ≤ j → Alike b (turns p i o x fr s b) (turns p j o y fr s b)
  turns_alike o x y h zero zero fr s b e f g k = alike_needs b s.store
  turns_alike o x y h zero (suc j) fr s zero e f g k = alike_needs 0 s.store
  turns_alike o x y h zero (suc j) fr s (suc b) e f g k = absurd (omega arith)
  turns_alike o x y h (suc i) zero fr s zero e f g k = alike_needs 0 s.store
  turns_alike o x y h (suc i) zero fr s (suc b) e f g k = absurd (omega arith)
  turns_alike o x y h (suc i) (suc j) fr s b e f g k =
      alike_spend b s.store _ _ (λ b' q. alike_lift b' s.store _ _ _ (λ v. alike_choose b' v _ _ _ _
      (alike_onward b' _ _ _ _ (h fr s b' (omega arith) (omega arith)) (λ fr' s' b'' r. turns_alike o x y h i j fr' s' b'' (omega arith) (omega arith) (omega arith) (omega arith)))
      (alike_done b' (goes fr) s b' (omega arith))))

  mutual
    unfolding run_stmt run_block run_cases

    stmt_alike : (x : Stmt) (fr : Frame) (s : State) (b : ℕ) → b ≤ m → b ≤ n → Alike b (run_stmt p c m l x fr s b) (run_stmt p d n l x fr s b)
    stmt_alike (assign t r) fr s b h k = alike_spend b s.store _ _ (λ b' e. assign_alike t r fr s b' (omega arith) (omega arith))
    stmt_alike (branch o x y) fr s b h k =
        alike_spend b s.store _ _ (λ b' e. alike_lift b' s.store _ _ _ (λ v. alike_choose b' v _ _ _ _
        (block_alike x fr s b' (omega arith) (omega arith)) (block_alike y fr s b' (omega arith) (omega arith))))
    stmt_alike (while o x) fr s b h k = turns_alike o (run_block p c m l x) (run_block p d n l x) (block_alike x) m n fr s b h k h k
    stmt_alike (switch o cs) fr s b h k =
        alike_spend b s.store _ _ (λ b' e. alike_lift b' s.store _ _ _ (λ v. cases_alike v cs fr s b' (omega arith) (omega arith)))
    stmt_alike (call f os) fr s b h k =
        alike_spend b s.store _ _ (λ b' e. alike_lift b' s.store _ _ _ (λ vs. dropped_call_alike (callee p f) fr f vs s b' (omega arith) (omega arith)))
    stmt_alike (return' o) fr s b h k =
        alike_spend b s.store _ _ (λ b' e. alike_lift b' s.store _ _ _ (λ us. alike_done b' (back us) s b' (omega arith)))

    block_alike : (x : Block) (fr : Frame) (s : State) (b : ℕ) → b ≤ m → b ≤ n → Alike b (run_block p c m l x fr s b) (run_block p d n l x fr s b)
    block_alike stop fr s b h k = alike_done b (goes fr) s b (omega arith)
    block_alike (also x xs) fr s b h k =
        alike_onward b _ _ _ _ (stmt_alike x fr s b h k) (λ fr' s' b' q. block_alike xs fr' s' b' (omega arith) (omega arith))

    cases_alike : (i : ℕ) (cs : Cases) (fr : Frame) (s : State) (b : ℕ) → b ≤ m → b ≤ n → Alike b (run_cases p c m l i cs fr s b) (run_cases p d n l i cs fr s b)
    cases_alike i end fr s b h k = alike_stuck b NoCase s.store
    cases_alike i (case tag x cs) fr s b h k = alike_cond b (nat_eq i tag) _ _ _ _ (block_alike x fr s b h k) (cases_alike i cs fr s b h k)

returned_alike : (p : Linked) (b : ℕ) (x y : Outcome Flow) → Alike b x y → Alike b (returned p x) (returned p y)
unfolding Left
returned_alike p b x y a = subst (λ z. Alike b (returned p x) (returned p z)) a.same (go x a.left)
  where
    go : (x : Outcome Flow) → Left b x → Alike b (returned p x) (returned p x)
    go (done (goes fr) s n) h = alike_stuck b _ _
    go (done (back us) s n) h = alike_done b _ s n h
    go (stuck why m) h = alike_stuck b why m
    go (needs m) h = alike_needs b m
    go astray h = alike_astray b

-- a function, by what its statements do
function_alike : (p : Linked) (c d : Calls) (m n : ℕ) (vs : List Value) (s : State) (b : ℕ) (o : Option Function)
    → ((l : Layout) (x : Block) (fr : Frame) → Alike b (run_block p c m l x fr s b) (run_block p d n l x fr s b))
    → Alike b (run_function p c m vs s b o) (run_function p d n vs s b o)
function_alike p c d m n vs s b None h = alike_stuck b NoFunction s.store
function_alike p c d m n vs s b (Some f) h = body f.body
  where
    frame : (g : Body) → Alike b (run_frame p c m f g (enter p f.params g.locals vs) s b) (run_frame p d n f g (enter p f.params g.locals vs) s b)
    frame g = alike_lift b s.store _ _ _ (λ fr. returned_alike p b _ _ (h _ g.block fr))

    body : (o : Option Body) → Alike b (run_body p c m f vs s b o) (run_body p d n f vs s b o)
    body None = alike_stuck b NoBody s.store
    body (Some g) = alike_bind b _ _ _ _ (frame g) (λ us after j q. alike_done j _ after j (omega arith))

calls_alike : (p : Linked) (m n : ℕ) (f : List ℕ) (vs : List Value) (s : State) (b : ℕ) → b < m → b < n → Alike b (calls_in p m f vs s b) (calls_in p n f vs s b)
unfolding calls_in
calls_alike p zero n f vs s b h k = absurd (omega arith)
calls_alike p (suc m) zero f vs s b h k = absurd (omega arith)
calls_alike p (suc m) (suc n) f vs s b h k =
    function_alike p (calls_in p m) (calls_in p n) m n vs s b (find f p.program.functions)
    (λ l x fr. block_alike p (calls_in p m) (calls_in p n) m n l (calls_alike p m n) x fr s b (omega arith) (omega arith))

-- the same for statements
pub any_depth : (p : Linked) (m n : ℕ) (l : Layout) (x : Block) (fr : Frame) (s : State) (b : ℕ) → b ≤ m → b ≤ n → Alike b (run_block p (calls_in p m) m l x fr s b) (run_block p (calls_in p n) n l x fr s b)
any_depth p m n l x fr s b h k = block_alike p (calls_in p m) (calls_in p n) m n l (calls_alike p m n) x fr s b h k

-- A call below the depth is the function at that depth.
pub calls_fixed : (p : Linked) (n : ℕ) (f : List ℕ) (vs : List Value) (s : State) (left : ℕ) → left < n
    → calls_in p n f vs s left ≡ run_function p (calls_in p n) n vs s left (find f p.program.functions)
unfolding calls_in
calls_fixed p zero f vs s left h = absurd (omega arith)
calls_fixed p (suc n) f vs s left h =
    (function_alike p (calls_in p n) (calls_in p (suc n)) n (suc n) vs s left (find f p.program.functions)
    (λ l x fr. any_depth p n (suc n) l x fr s left (omega arith) (omega arith))).same

-- A loop below the depth goes on as a loop at that depth.
pub turns_fixed : (p : Linked) (n : ℕ) (l : Layout) (o : COpnd) (b : Block) (fr : Frame) (s : State) (left : ℕ) → left < n
    → turns p n o (run_block p (calls_in p n) n l b) fr s (suc left)
    ≡ lift s.store (judged_word p.program.structs s.store fr o) (λ k. choose k (onward (run_block p (calls_in p n) n l b fr s left) (turns p n o (run_block p (calls_in p n) n l b))) (done (goes fr) s left))
turns_fixed p zero l o b fr s left h = absurd (omega arith)
turns_fixed p (suc n) l o b fr s left h =
    (alike_lift left s.store _ _ _ (λ k. alike_choose left k _ _ _ _
    (alike_onward left _ _ _ _ (any_depth p (suc n) (suc n) l b fr s left (omega arith) (omega arith))
    (λ fr' s' i q. turns_alike p (calls_in p (suc n)) (calls_in p (suc n)) (suc n) (suc n) l (calls_alike p (suc n) (suc n)) o _ _
    (λ fr'' s'' j x y. any_depth p (suc n) (suc n) l b fr'' s'' j x y) n (suc n) fr' s' i (omega arith) (omega arith) (omega arith) (omega arith)))
    (alike_done left (goes fr) s left (omega arith)))).same
