-- The statements of a term do what the update semantics does: one lemma for each way of putting lowered parts together.
use Rattle.std.proofs.Common.{◌≡◌, ℕ, zero, suc, ◌+◌, ◌*◌, ◌^◌, ◌≤◌, true, Option, Some, List, [], ◌∷◌, ◌++◌, length, length-append, get_or, slice_get, subst, arith}
use Rattle.cg_base.specs.Types.{Tau}
use Rattle.cg_cmachine_def.specs.Layouts.{Layout, layout, size}
use Rattle.cg_cmachine_def.specs.Operands.{Value, Frame, give}
use Rattle.cg_cmachine_def.specs.Outcomes.{State as RunState, ok}
use Rattle.cg_cmachine_def.specs.Runs.{Linked, plain}
use Rattle.cg_cmachine_def.specs.Targets.{with_scalars}
use Rattle.cg_ctree.specs.declared.tree.CRhs.{CRhs}
use Rattle.cg_ctree.specs.declared.tree.CTy.{CTy}
use Rattle.cg_ctree.specs.Trees.{Stmt, assign}
use Rattle.cg_heap.specs.declared.cell.Scalar.{Scalar}
use Rattle.cg_update.specs.Machines.{is_machine}
use Rattle.cg_update.specs.Outcomes.{State}
use Rattle.cg_lower_def.specs.CTypes.{c_type}
use Rattle.cg_cgen_def.specs.Bodies.{Low, leaf}
use Rattle.cg_lower_def.specs.Lowered.{joined, before, and_then, set}
use Rattle.cg_cgen_def.specs.Places.{local, Place, number, held, local_name, path}
use Rattle.cg_lower_def.specs.Simulated.{as_run}
use Rattle.cg_lower_laws.proofs.Frames.{Is, set_is, Changes, changes_none, changes_on, changes_wider, changes_set, Fresh, fresh_back, fresh_later, Keeps, keeps_later, is_kept, Under, under_more}
use Rattle.cg_lower_laws.proofs.Operands.{write_whole}
use Rattle.cg_lower_laws.proofs.Runs.{Runs, runs_none, runs_on, is_plain, runs_plain}

module _ (p : Linked) where
  abbrev pub lay_c : CTy → Layout
  lay_c t = layout p.program.structs t

  -- ---- statements that set locals from number k on

  -- lowered statements, in a function of a type, from a frame and a state to others
  pub record Went (l : Layout) (k : ℕ) (fr : Frame) (s : RunState) (a : Low) (steps : ℕ) (fr' : Frame) (s' : RunState) : Type 0 where
    pub runs : Runs p l a.code fr s steps fr' s'
    pub changes : Changes k (k + length a.locals) fr fr'

  pub went_leaf : (l : Layout) (k : ℕ) (fr : Frame) (s : RunState) (v : Place) → Went l k fr s (leaf v) 0 fr s
  went_leaf l k fr s v = record { runs = runs_none p l fr s; changes = changes_none k (k + 0) fr }

  -- one behind the other; whose value is taken doesn't matter
  pub went_joined : (l : Layout) (k n : ℕ) (fr fr1 fr2 : Frame) (s s1 s2 : RunState) (a b : Low) (i j : ℕ) → n ≡ k + length a.locals
      → Went l k fr s a i fr1 s1 → Went l n fr1 s1 b j fr2 s2 → Went l k fr s (joined a b) (i + j) fr2 s2
  went_joined l k n fr fr1 fr2 s s1 s2 a b i j e x y =
      let len = length-append a.locals b.locals in
      record {
        runs = runs_on p l a.code b.code fr fr1 fr2 s s1 s2 i j x.runs y.runs;
        changes = changes_on k (k + length (a.locals ++ b.locals)) fr fr1 fr2
            (changes_wider k (k + length (a.locals ++ b.locals)) k (k + length a.locals) fr fr1 (omega arith) (omega (arith, len)) x.changes)
            (changes_wider k (k + length (a.locals ++ b.locals)) n (n + length b.locals) fr1 fr2 (omega (arith, e)) (omega (arith, e, len)) y.changes);
      }

  pub went_before : (l : Layout) (k : ℕ) (fr fr' : Frame) (s s' : RunState) (a b : Low) (i : ℕ) → Went l k fr s (joined a b) i fr' s' → Went l k fr s (before a b) i fr' s'
  went_before l k fr fr' s s' a b i x = record { runs = x.runs; changes = x.changes }

  -- and then statements that set these locals
  pub went_on : (l : Layout) (k : ℕ) (fr fr1 fr2 : Frame) (s s1 s2 : RunState) (a : Low) (stmts : List Stmt) (i n : ℕ)
      → Went l k fr s a i fr1 s1 → Runs p l stmts fr1 s1 n fr2 s2 → Changes k (k + length a.locals) fr1 fr2 → Went l k fr s (and_then a stmts) (i + n) fr2 s2
  went_on l k fr fr1 fr2 s s1 s2 a stmts i n x r c =
      record {
        runs = runs_on p l a.code stmts fr fr1 fr2 s s1 s2 i n x.runs r;
        changes = changes_on k (k + length a.locals) fr fr1 fr2 x.changes c;
      }

  -- and then a local
  pub went_set : (l : Layout) (k to : ℕ) (fr fr1 fr2 : Frame) (s s1 s2 : RunState) (t : CTy) (a : Low) (stmts : ℕ → List Stmt) (i n : ℕ) → to ≡ k + length a.locals
      → Went l k fr s a i fr1 s1 → Runs p l (stmts to) fr1 s1 n fr2 s2 → Changes to (suc to) fr1 fr2 → Went l k fr s (set k t a stmts) (i + n) fr2 s2
  went_set l k to fr fr1 fr2 s s1 s2 t a stmts i n e x r c =
      let len = length-append a.locals (t ∷ []) in
      record {
        runs = runs_on p l a.code (stmts (k + length a.locals)) fr fr1 fr2 s s1 s2 i n x.runs (subst (λ z. Runs p l (stmts z) fr1 s1 n fr2 s2) e r);
        changes = changes_on k (k + length (a.locals ++ t ∷ [])) fr fr1 fr2
            (changes_wider k (k + length (a.locals ++ t ∷ [])) k (k + length a.locals) fr fr1 (omega arith) (omega (arith, len)) x.changes)
            (changes_wider k (k + length (a.locals ++ t ∷ [])) to (suc to) fr1 fr2 (omega (arith, e)) (omega (arith, e, len)) c);
      }

  -- ---- terms

  -- A lowered term that gives these scalars of a type, where `left` of the budget was there and `rest` is left of it: at most 32 steps for
  -- each 1 of it that is spent.
  pub record Ran (types : ℕ → Option Tau) (numbered : Tau → ℕ) (l : Layout) (k : ℕ) (fr : Frame) (s : State) (a : Low) (t : Tau) (us : List Scalar) (s' : State) (left rest : ℕ) : Type 0 where
    pub steps : ℕ
    pub frame : Frame
    pub within : steps + 32 * rest ≤ 32 * left
    pub went : Went l k fr (as_run s) a steps frame (as_run s')
    pub keeps : Keeps frame a.value (lay_c (c_type numbered t)) us
    pub under : Under (k + length a.locals) a.value
    pub machine : is_machine types t us ≡ true

  module _ (types : ℕ → Option Tau) (numbered : Tau → ℕ) (l : Layout) where
    abbrev lay_of : Tau → Layout
    lay_of t = lay_c (c_type numbered t)

    -- what is kept already, at a node that costs 1
    pub leaf_ran : (k : ℕ) (fr : Frame) (s : State) (v : Place) (t : Tau) (us : List Scalar) (m : ℕ) → Keeps fr v (lay_of t) us → Under k v → is_machine types t us ≡ true
        → Ran types numbered l k fr s (leaf v) t us s (suc m) m
    leaf_ran k fr s v t us m keeps under machine =
        record {
          steps = 0;
          frame = fr;
          within = omega arith;
          went = went_leaf l k fr (as_run s) v;
          keeps = keeps;
          under = under_more k (k + 0) v (omega arith) under;
          machine = machine;
        }

    -- a term and then another, whose value is given
    pub joined_ran : (k n : ℕ) (fr : Frame) (s s1 s2 : State) (a b : Low) (t u : Tau) (us ws : List Scalar) (left mid rest : ℕ) → n ≡ k + length a.locals
        → (x : Ran types numbered l k fr s a t us s1 left mid) → Ran types numbered l n x.frame s1 b u ws s2 mid rest → Ran types numbered l k fr s (joined a b) u ws s2 (suc left) rest
    joined_ran k n fr s s1 s2 a b t u us ws left mid rest e x y =
        record {
          steps = x.steps + y.steps;
          frame = y.frame;
          within = omega (arith, x.within, y.within);
          went = went_joined l k n fr x.frame y.frame (as_run s) (as_run s1) (as_run s2) a b x.steps y.steps e x.went y.went;
          keeps = y.keeps;
          under = under_more (n + length b.locals) (k + length (a.locals ++ b.locals)) b.value (omega (arith, e, length-append a.locals b.locals)) y.under;
          machine = y.machine;
        }

    -- statements that set a local behind others
    pub set_ran : (k to : ℕ) (fr fr1 fr2 : Frame) (s s2 : State) (s1 : RunState) (a : Low) (t : Tau) (us : List Scalar) (stmts : ℕ → List Stmt) (i n left rest : ℕ)
        → to ≡ k + length a.locals → Went l k fr (as_run s) a i fr1 s1 → Runs p l (stmts to) fr1 s1 n fr2 (as_run s2) → Changes to (suc to) fr1 fr2
        → Is fr2 (local_name to) (lay_of t) us → is_machine types t us ≡ true → i + n + 32 * rest ≤ 32 * left
        → Ran types numbered l k fr s (set k (c_type numbered t) a stmts) t us s2 left rest
    set_ran k to fr fr1 fr2 s s2 s1 a t us stmts i n left rest e x r c is machine h =
        record {
          steps = i + n;
          frame = fr2;
          within = h;
          went = went_set l k to fr fr1 fr2 (as_run s) s1 (as_run s2) (c_type numbered t) a stmts i n e x r c;
          keeps = subst (λ z. Keeps fr2 (held (local z) []) (lay_of t) us) e (is_kept fr2 (local to) (lay_of t) us is);
          under = let len = length-append a.locals (c_type numbered t ∷ []) in omega (arith, len);
          machine = machine;
        }

    -- an assignment to a local of what is judged in one step, with no other effect
    pub assign_ran : (k to : ℕ) (fr fr1 : Frame) (s s1 : State) (a : Low) (t : Tau) (us : List Scalar) (r : ℕ → CRhs) (v : Value) (i left rest : ℕ) (old : List Scalar)
        → to ≡ k + length a.locals → Went l k fr (as_run s) a i fr1 (as_run s1) → Is fr1 (local_name to) (lay_of t) old → is_plain (r to) ≡ true
        → plain p.program.structs s1.store fr1 (r to) ≡ ok v → give (lay_of t) v ≡ ok us → length us ≡ size (lay_of t) → is_machine types t us ≡ true → i + 1 + 32 * rest ≤ 32 * left
        → Ran types numbered l k fr s (set k (c_type numbered t) a (λ to. assign (path (local to) []) (r to) ∷ [])) t us s1 left rest
    assign_ran k to fr fr1 s s1 a t us r v i left rest old e x is simple j g sized machine h =
        set_ran k to fr fr1 (with_scalars (local_name to) us fr1) s s1 (as_run s1) a t us (λ to. assign (path (local to) []) (r to) ∷ []) i 1 left rest e x
        (runs_plain p l (path (local to) []) (r to) fr1 (as_run s1) v (record { frame = with_scalars (local_name to) us fr1; store = s1.store }) simple j
        (write_whole numbered p.program.structs s1.store fr1 (local to) (lay_of t) old us v is g))
        (changes_set to (suc to) to fr1 us (omega arith) (omega arith))
        (set_is fr1 (local_name to) (lay_of t) old us is sized)
        machine h

  -- ---- locals

  -- the next local behind a term's own is unset, and so are those behind it
  pub next_local : (l : Layout) (k to : ℕ) (fr fr1 : Frame) (s s1 : RunState) (a : Low) (t : CTy) (ts : List CTy) (i : ℕ) → to ≡ k + length a.locals
      → k + length (a.locals ++ t ∷ ts) ≤ 2 ^ 64 → Fresh lay_c fr k (a.locals ++ t ∷ ts) → Went l k fr s a i fr1 s1
      → Fresh lay_c fr1 to (t ∷ ts)
  next_local l k to fr fr1 s s1 a t ts i e b f x =
      let len = length-append a.locals (t ∷ ts) in
      fresh_later lay_c k (k + length a.locals) to fr fr1 (t ∷ ts) x.changes (omega (arith, e)) (omega (arith, e, len, b)) (fresh_back lay_c fr k to a.locals (t ∷ ts) e f)

  -- ---- variables

  -- variables are kept at places that no local from number k on is a part of
  abbrev pub AreKept : ℕ → Frame → List CTy → List Place → List (List Scalar) → Type 0
  AreKept k fr [] [] [] = Unit {0}
  AreKept k fr (t ∷ ts) (v ∷ vs) (us ∷ uss) = Keeps fr v (lay_c t) us × Under k v × AreKept k fr ts vs uss
  AreKept k fr _ _ _ = ⊥

  pub kept_at : (k : ℕ) (fr : Frame) (ts : List CTy) (vs : List Place) (uss : List (List Scalar)) (i : ℕ) (t : CTy) → AreKept k fr ts vs uss → slice_get ts i ≡ Some t
      → Keeps fr (get_or vs i (number 0)) (lay_c t) (get_or uss i []) × Under k (get_or vs i (number 0))
  kept_at k fr [] vs uss i t h e = absurd (cc)
  kept_at k fr (u ∷ ts) (v ∷ vs) (us ∷ uss) zero t h e = let same : u ≡ t = cc in (subst (λ z. Keeps fr v (lay_c z) us) same h.0, h.1)
  kept_at k fr (u ∷ ts) (v ∷ vs) (us ∷ uss) (suc i) t h e = kept_at k fr ts vs uss i t h.2 e
  kept_at k fr (u ∷ ts) [] uss i t h e = absurd h
  kept_at k fr (u ∷ ts) (v ∷ vs) [] i t h e = absurd h

  pub kept_later : (k n : ℕ) (fr fr' : Frame) (ts : List CTy) (vs : List Place) (uss : List (List Scalar)) → k ≤ n → n ≤ 2 ^ 64 → Changes k n fr fr' → AreKept k fr ts vs uss → AreKept n fr' ts vs uss
  kept_later k n fr fr' [] [] [] h b c x = tt
  kept_later k n fr fr' (t ∷ ts) (v ∷ vs) (us ∷ uss) h b c x =
      (keeps_later k n fr fr' v (lay_c t) us c b x.1 x.0, under_more k n v h x.1, kept_later k n fr fr' ts vs uss h b c x.2)
  kept_later k n fr fr' [] (v ∷ vs) uss h b c x = absurd x
  kept_later k n fr fr' [] [] (us ∷ uss) h b c x = absurd x
  kept_later k n fr fr' (t ∷ ts) [] uss h b c x = absurd x
  kept_later k n fr fr' (t ∷ ts) (v ∷ vs) [] h b c x = absurd x

  pub kept_push : (k : ℕ) (fr : Frame) (ts : List CTy) (vs : List Place) (uss : List (List Scalar)) (t : CTy) (v : Place) (us : List Scalar) → AreKept k fr ts vs uss → Keeps fr v (lay_c t) us → Under k v
      → AreKept k fr (ts ++ t ∷ []) (vs ++ v ∷ []) (uss ++ us ∷ [])
  kept_push k fr [] [] [] t v us x y u = (y, u, tt)
  kept_push k fr (r ∷ ts) (w ∷ vs) (ws ∷ uss) t v us x y u = (x.0, x.1, kept_push k fr ts vs uss t v us x.2 y u)
  kept_push k fr [] (w ∷ vs) uss t v us x y u = absurd x
  kept_push k fr [] [] (ws ∷ uss) t v us x y u = absurd x
  kept_push k fr (r ∷ ts) [] uss t v us x y u = absurd x
  kept_push k fr (r ∷ ts) (w ∷ vs) [] t v us x y u = absurd x
