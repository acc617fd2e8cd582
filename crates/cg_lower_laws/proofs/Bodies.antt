-- Calls of a function with a body, by what its statements do.
use Rattle.std.proofs.Common.{◌≡◌, ℕ, zero, suc, ◌+◌, ◌^◌, ◌<◌, ◌≤◌, false, Some, List, [], ◌∷◌, ◌++◌, length, replicate, bytes_eq, refl, ap, ◌∙◌, arith, take_all}
use Rattle.std.proofs.lemmas.Bool.{le-leb}
use Rattle.std.proofs.lemmas.List.{drop_all}
use Rattle.cg_base.specs.Types.{Tau}
use Rattle.cg_cmachine_def.specs.Layouts.{Layout, size}
use Rattle.cg_cmachine_def.specs.Operands.{Value, typed, Variable, Frame, give, judge}
use Rattle.cg_cmachine_def.specs.Outcomes.{ok, State, Outcome, done, stuck, needs, astray, bind}
use Rattle.cg_cmachine_def.specs.Runs.{Linked, Flow, goes, back, Calls, own, callee, onward, returned, run_stmt, run_block, run_frame, run_function, start, unset, enter, filled, find, calls_in}
use Rattle.cg_ctree.specs.declared.tree.COpnd.{COpnd}
use Rattle.cg_ctree.specs.declared.tree.CTy.{CTy}
use Rattle.cg_ctree.specs.Trees.{Stmt, return', to_block, Function}
use Rattle.cg_heap.specs.declared.cell.Scalar.{Scalar}
use Rattle.cg_heap.specs.declared.cell.Scalar.TheVariants.{Unset}
use Rattle.cg_cgen_def.specs.Names.{declared}
use Rattle.cg_cgen_def.specs.Bodies.{body_of, locals_from, Low}
use Rattle.cg_cgen_def.specs.Places.{argument_name, local_name, operand}
use Rattle.cg_lower_laws.proofs.Frames.{Is, Fresh, Keeps}
use Rattle.cg_lower_laws.proofs.Names.{apart}
use Rattle.cg_lower_laws.proofs.Operands.{IsReadable, Reads, reads}
use Rattle.cg_lower_laws.proofs.Runs.{Runs, Answers}
use Rattle.cg_lower_laws.proofs.Terms.{lay_c}
use Rattle.cg_base.proofs.Sequences.{itself}

-- ---- the frame that a call begins with

-- as many as are asked for
pub length_replicate : {A : Type 0} (n : ℕ) (x : A) → length (replicate n x) ≡ n
length_replicate zero x = refl
length_replicate (suc n) x = ap suc (length_replicate n x)

-- a variable of another name in front
fresh_more : (lay : CTy → Layout) (v : Variable) (fr : Frame) (k : ℕ) (ts : List CTy) → k + length ts ≤ 2 ^ 64
    → ((j : ℕ) → k ≤ j → j < 2 ^ 64 → bytes_eq (local_name j) v.name ≡ false) → Fresh lay fr k ts → Fresh lay (v ∷ fr) k ts
fresh_more lay v fr k [] b n h = tt
fresh_more lay v fr k (t ∷ ts) b n h = (
  record { variable = h.0.variable; found = rw (n k (omega arith) (omega arith)) h.0.found; laid = h.0.laid; holds = h.0.holds; sized = h.0.sized },
  fresh_more lay v fr (suc k) ts (omega arith) (λ j a c. n j (omega arith) c) h.1,
)

module _ (q : Linked) where
  -- the locals stand unset
  fresh_unset : (k : ℕ) (ts : List CTy) → k + length ts ≤ 2 ^ 64 → Fresh (lay_c q) (unset q (locals_from k ts)) k ts
  fresh_unset k [] b = tt
  fresh_unset k (t ∷ ts) b =
      let v : Variable = record { name = local_name k; layout = lay_c q t; scalars = replicate (size (lay_c q t)) Unset } in (
        record { variable = v; found = rw (itself (local_name k)) refl; laid = refl; holds = refl; sized = length_replicate (size (lay_c q t)) Unset },
        fresh_more (lay_c q) v (unset q (locals_from (suc k) ts)) (suc k) ts (omega arith) (λ j h h'. apart 120 j k h' (omega arith) (λ e. omega arith))
            (fresh_unset (suc k) ts (omega arith)),
      )

  -- the argument, and then the locals
  abbrev pub begins : CTy → List Scalar → List CTy → Frame
  begins t us ts = record { name = argument_name; layout = lay_c q t; scalars = us } ∷ unset q (locals_from 0 ts)

  -- the argument stands there
  pub begins_is : (t : CTy) (us : List Scalar) (ts : List CTy) → length us ≡ size (lay_c q t) → Is (begins t us ts) argument_name (lay_c q t) us
  begins_is t us ts e =
      record {
        variable = record { name = argument_name; layout = lay_c q t; scalars = us };
        found = rw (itself argument_name) refl;
        laid = refl;
        holds = refl;
        sized = e;
      }

  -- and the locals are unset
  pub begins_fresh : (t : CTy) (us : List Scalar) (ts : List CTy) → length ts < 2 ^ 64 → Fresh (lay_c q) (begins t us ts) 0 ts
  begins_fresh t us ts b =
      fresh_more (lay_c q) (record { name = argument_name; layout = lay_c q t; scalars = us }) (unset q (locals_from 0 ts)) 0 ts (omega arith) (λ j h h'. refl)
      (fresh_unset 0 ts (omega arith))

  -- a call begins with this frame, and so does a run
  entered : (t : CTy) (us : List Scalar) (ts : List CTy) (v : Value) → give (lay_c q t) v ≡ ok us
      → enter q (declared t argument_name ∷ []) (locals_from 0 ts) (v ∷ []) ≡ ok (begins t us ts)
  entered t us ts v g = rw g refl

  filled_by : (t : CTy) (us : List Scalar) (ts : List CTy) → length us ≡ size (lay_c q t) → filled q (declared t argument_name ∷ []) (locals_from 0 ts) us ≡ ok (begins t us ts)
  filled_by t us ts e =
      rw (le-leb (size (lay_c q t)) (length us) (omega (arith, e)), drop_all (size (lay_c q t)) us (omega (arith, e)), take_all (size (lay_c q t)) us (omega (arith, e))) refl

-- ---- statements that return behind others

-- what comes behind statements that go on
onward_behind : (r : Outcome Flow) (f g : Frame → State → ℕ → Outcome Flow) (fr : Frame) (s : State) (b : ℕ) (w : Outcome Flow)
    → ((fr' : Frame) (s' : State) (b' : ℕ) → f fr' s' b' ≡ done (goes fr) s b → g fr' s' b' ≡ w) → onward r f ≡ done (goes fr) s b → onward r g ≡ w
onward_behind (done (goes fr') s' b') f g fr s b w h e = h fr' s' b' e
onward_behind (done (back us) s' b') f g fr s b w h e = absurd (cc)
onward_behind (stuck why m) f g fr s b w h e = absurd (cc)
onward_behind (needs m) f g fr s b w h e = absurd (cc)
onward_behind astray f g fr s b w h e = absurd (cc)

-- the same of a block of two parts
block_behind : (q : Linked) (c : Calls) (n : ℕ) (l : Layout) (x y : List Stmt) (fr fr' : Frame) (s s' : State) (b b' : ℕ)
    → run_block q c n l (to_block x) fr s b ≡ done (goes fr') s' b' → run_block q c n l (to_block (x ++ y)) fr s b ≡ run_block q c n l (to_block y) fr' s' b'
unfolding run_block to_block
block_behind q c n l [] y fr fr' s s' b b' e =
    cc
block_behind q c n l (z ∷ x) y fr fr' s s' b b' e =
    onward_behind (run_stmt q c n l z fr s b) (run_block q c n l (to_block x)) (run_block q c n l (to_block (x ++ y))) fr' s' b' (run_block q c n l (to_block y) fr' s' b')
    (λ fr1 s1 b1 h. block_behind q c n l x y fr1 fr' s1 s' b1 b' h) e

-- a return
returns : (q : Linked) (c : Calls) (n : ℕ) (l : Layout) (o : COpnd) (v : Value) (us : List Scalar) (fr : Frame) (s : State) (b : ℕ)
    → judge q.program.structs s.store fr o ≡ ok v → give l v ≡ ok us → run_block q c n l (to_block (return' o ∷ [])) fr s (suc b) ≡ done (back us) s b
unfolding run_block run_stmt to_block
returns q c n l o v us fr s b j g = rw (j, g) refl

-- what the statements of a body do: they leave its result at the place of its value, where it can be read
pub record BodyRan (q : Linked) (l : Layout) (a : Low) (fr : Frame) (s s' : State) (ws : List Scalar) (steps : ℕ) : Type 0 where
  pub frame : Frame
  pub runs : Runs q l a.code fr s steps frame s'
  pub keeps : Keeps frame a.value l ws
  pub readable : IsReadable l ws

-- the operand of the return is read in the frame behind them
pub body_returns : (q : Linked) (numbered : Tau → ℕ) (l : Layout) (a : Low) (fr : Frame) (s s' : State) (ws : List Scalar) (steps : ℕ) → BodyRan q l a fr s s' ws steps
    → (m b b' : ℕ) → b ≡ suc steps + b' → b ≤ m → returned q (run_block q (calls_in q m) m l (to_block (a.code ++ return' (operand a.value) ∷ [])) fr s b) ≡ done ws s' b'
body_returns q numbered l a fr s s' ws steps ran m b b' e le =
    let r : Reads numbered q.program.structs s'.store ran.frame (operand a.value) l ws = reads numbered q.program.structs s'.store ran.frame a.value l ws ran.keeps ran.readable in
    ap (returned q)
    (block_behind q (calls_in q m) m l a.code (return' (operand a.value) ∷ []) fr ran.frame s s' b (suc b') (ran.runs.by m b (suc b') (omega (arith, e)) le)
    ∙ returns q (calls_in q m) m l (operand a.value) r.value ws ran.frame s' b' r.read r.given)

-- ---- calls and runs

-- a function with this body
abbrev pub bodied : List ℕ → CTy → CTy → Low → Function
bodied x t r a = record { ty = r; name = x; params = declared t argument_name ∷ []; body = Some (body_of a) }

module _ (q : Linked) (numbered : Tau → ℕ) (x : List ℕ) (t r : CTy) (a : Low) (us ws : List Scalar) (s s' : State) (steps : ℕ)
    (found : find x q.program.functions ≡ Some (bodied x t r a)) (ran : BodyRan q (lay_c q r) a (begins q t us a.locals) s s' ws steps) where
  -- a call, with values that give the argument
  called : (v : Value) (m b b' : ℕ) → give (lay_c q t) v ≡ ok us → b ≡ suc steps + b' → b < m → calls_in q m x (v ∷ []) s b ≡ done (typed (lay_c q r) ws) s' b'
  unfolding calls_in
  called v zero b b' g e le = absurd (omega arith)
  called v (suc m) b b' g e le =
      ap (run_function q (calls_in q m) m (v ∷ []) s b) found
      ∙ ap (λ z. bind (run_frame q (calls_in q m) m (bodied x t r a) (body_of a) z s b) (λ us after rest. done (typed (lay_c q r) us) after rest)) (entered q t us a.locals v g)
      ∙ ap (λ z. bind z (λ us after rest. done (typed (lay_c q r) us) after rest))
      (body_returns q numbered (lay_c q r) a (begins q t us a.locals) s s' ws steps ran m b b' e (omega (arith, le)))

  -- so does a call in a program, of a function that is its own
  pub body_answers : (v : Value) → callee q x ≡ own → give (lay_c q t) v ≡ ok us → Answers q x (v ∷ []) s (suc steps) (typed (lay_c q r) ws) s'
  body_answers v c g = record { by = λ m b b' e le. rw c (called v m b b' g e le) }

  -- a whole run
  pub body_runs : (n left : ℕ) → length us ≡ size (lay_c q t) → n ≡ suc steps + left → start q n us s n (find x q.program.functions) ≡ done ws s' left
  body_runs n left e h =
      ap (start q n us s n) found
      ∙ ap (λ z. run_frame q (calls_in q n) n (bodied x t r a) (body_of a) z s n) (filled_by q t us a.locals e)
      ∙ body_returns q numbered (lay_c q r) a (begins q t us a.locals) s s' ws steps ran n n left h (omega arith)
