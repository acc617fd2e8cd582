-- A part of a node, and then the rest of it: alone, beside the variables that are left, and beside a value that is held.
use Rattle.std.proofs.Common.{◌≡◌, ℕ, ◌+◌, ◌≤◌, Bool, true, IsTrue, Option, Some, List, [], ◌∷◌, ◌++◌, refl, sym, arith, subst as at}
use Rattle.std.specs.List.{list_all}
use Rattle.cg_base.specs.declared.kind.Sigil.{Sigil}
use Rattle.cg_base.specs.declared.kind.Sigil.TheVariants.{R, W}
use Rattle.cg_base.specs.Types.{Tau}
use Rattle.cg_core.specs.declared.derivation.Mark.{Mark}
use Rattle.cg_core.specs.declared.term.Seen.{Seen as Observer}
use Rattle.cg_core.specs.Derivations.{Derivation}
use Rattle.cg_core.specs.Terms.{Note, Tree}
use Rattle.cg_eval_def.specs.Evaluation as values
use Rattle.cg_eval_def.specs.Evaluation.{Context, Run}
use Rattle.cg_heap.specs.Calls.{heap_of}
use Rattle.cg_heap.specs.declared.cell.Scalar.{Scalar}
use Rattle.cg_heap.specs.Reps.{HeapWorld, Holds, foot}
use Rattle.cg_heap.specs.Steps.{IsFine}
use Rattle.cg_heap_laws.proofs.ByKinds.{no_reads}
use Rattle.cg_heap_laws.proofs.Same.{holds_same}
use Rattle.cg_heap_laws.proofs.Steps.{parts_are_fine}
use Rattle.cg_kinds.specs.Kinds.{kinds}
use Rattle.cg_refine.proofs.Contexts.{Sides, pushed_foot, pushed_held, same_context, sides}
use Rattle.cg_refine.proofs.Sequence.{Next, fine_as, part_then, reached_fine, refined_from}
use Rattle.cg_refine.specs.Laws.{TermsRefine}
use Rattle.cg_refine_def.specs.Contexts.{Divided, HoldsContext, context_foot}
use Rattle.cg_refine_def.specs.Refined.{IsRefined, is_clear_node, side_of}
use Rattle.cg_typing.specs.Contexts.{Context as Entries, push, first, second, Splits}
use Rattle.cg_typing.specs.Instances.{nodes_of}
use Rattle.cg_typing.specs.Rules.{Derives, type_at}
use Rattle.cg_update.specs.Calls.{Program}
use Rattle.cg_update.specs.Outcomes.{State, Outcome, bind}
use Rattle.cg_update.specs.Updates.{Calls, update}
use Rattle.cg_value.specs.Values.{Val}

-- ---- what is reached, in a state

-- by scalars of a type, and by variables
abbrev pub F : State → Sigil → Tau → List Scalar → ℕ → ℕ
F s m t us q = foot (heap_of s.store) m t us q

abbrev pub G : State → Sigil → Entries → List (List Scalar) → ℕ → ℕ
G s m g us q = context_foot (heap_of s.store) m g us q

-- by a value beside the variables, and by a second value beside a first
abbrev pub Beside : State → Sigil → Tau → List Scalar → Entries → List (List Scalar) → ℕ → ℕ
Beside s m t ws g us q = foot (heap_of s.store) m t ws q + context_foot (heap_of s.store) m g us q

abbrev pub Both : State → Sigil → Tau → List Scalar → Tau → List Scalar → ℕ → ℕ
Both s m t ws u rs q = foot (heap_of s.store) m u rs q + foot (heap_of s.store) m t ws q

-- by two values beside the variables
abbrev pub Three : State → Sigil → Tau → List Scalar → Tau → List Scalar → Entries → List (List Scalar) → ℕ → ℕ
Three s m t ws u rs g us q = foot (heap_of s.store) m u rs q + (foot (heap_of s.store) m t ws q + context_foot (heap_of s.store) m g us q)

-- by a value in one state, with what the variables, a value, and a value beside the variables reached in another
abbrev WasLeft : State → State → Sigil → Tau → List Scalar → Entries → List (List Scalar) → ℕ → ℕ
WasLeft after s m u rs g us q = foot (heap_of after.store) m u rs q + context_foot (heap_of s.store) m g us q

abbrev WasHeld : State → State → Sigil → Tau → List Scalar → Tau → List Scalar → ℕ → ℕ
WasHeld after s m u rs t ws q = foot (heap_of after.store) m u rs q + foot (heap_of s.store) m t ws q

abbrev WasBoth : State → State → Sigil → Tau → List Scalar → Tau → List Scalar → Entries → List (List Scalar) → ℕ → ℕ
WasBoth after s m u rs t ws g us q = foot (heap_of after.store) m u rs q + (foot (heap_of s.store) m t ws q + context_foot (heap_of s.store) m g us q)

module _ (world : HeapWorld) where
  -- the variables hold, and are fine
  pub record Fits (s : State) (g : Entries) (us : List (List Scalar)) (vs : List Val) : Type 0 where
    pub holds : HoldsContext world (heap_of s.store) g us vs
    pub fine : IsFine (side_of s (G s W g us) (G s R g us))

  -- a value holds, and is fine
  pub record FitsAlone (s : State) (t : Tau) (ws : List Scalar) (v : Val) : Type 0 where
    pub holds : Holds world (heap_of s.store) t ws v
    pub fine : IsFine (side_of s (F s W t ws) (F s R t ws))

  -- a value holds beside the variables, and both are fine
  pub record FitsBeside (s : State) (t : Tau) (ws : List Scalar) (v : Val) (g : Entries) (us : List (List Scalar)) (vs : List Val) : Type 0 where
    pub holds : Holds world (heap_of s.store) t ws v
    pub rest : HoldsContext world (heap_of s.store) g us vs
    pub fine : IsFine (side_of s (Beside s W t ws g us) (Beside s R t ws g us))

  -- a second value holds beside the first, and both are fine
  pub record FitBoth (s : State) (t : Tau) (ws : List Scalar) (v : Val) (u : Tau) (rs : List Scalar) (w : Val) : Type 0 where
    pub one : Holds world (heap_of s.store) t ws v
    pub two : Holds world (heap_of s.store) u rs w
    pub fine : IsFine (side_of s (Both s W t ws u rs) (Both s R t ws u rs))

  -- two values hold beside the variables, and all are fine
  pub record FitThree (s : State) (t : Tau) (ws : List Scalar) (v : Val) (u : Tau) (rs : List Scalar) (w : Val) (g : Entries) (us : List (List Scalar)) (vs : List Val) : Type 0 where
    pub one : Holds world (heap_of s.store) t ws v
    pub two : Holds world (heap_of s.store) u rs w
    pub rest : HoldsContext world (heap_of s.store) g us vs
    pub fine : IsFine (side_of s (Three s W t ws u rs g us) (Three s R t ws u rs g us))

  -- an update from what the variables reach, from a value alone, from a value beside the variables, and from two values
  abbrev pub FromAll : State → Entries → List (List Scalar) → Tau → values.Outcome → Outcome → Type 0
  FromAll s g us t o q = IsRefined world s (G s W g us) (G s R g us) t o q

  abbrev pub FromOne : State → Tau → List Scalar → Tau → values.Outcome → Outcome → Type 0
  FromOne s t ws u o q = IsRefined world s (F s W t ws) (F s R t ws) u o q

  abbrev pub FromBeside : State → Tau → List Scalar → Entries → List (List Scalar) → Tau → values.Outcome → Outcome → Type 0
  FromBeside s t ws g us u o q = IsRefined world s (Beside s W t ws g us) (Beside s R t ws g us) u o q

  abbrev pub FromBoth : State → Tau → List Scalar → Tau → List Scalar → Tau → values.Outcome → Outcome → Type 0
  FromBoth s t ws t' rs u o q = IsRefined world s (Both s W t ws t' rs) (Both s R t ws t' rs) u o q

  abbrev pub FromThree : State → Tau → List Scalar → Tau → List Scalar → Entries → List (List Scalar) → Tau → values.Outcome → Outcome → Type 0
  FromThree s t ws t' rs g us u o q = IsRefined world s (Three s W t ws t' rs g us) (Three s R t ws t' rs g us) u o q

  -- another value with the same footprints beside the variables
  pub as_fits : (s : State) (t : Tau) (ws : List Scalar) (v : Val) (g : Entries) (us : List (List Scalar)) (vs : List Val) → FitsBeside s t ws v g us vs → (u : Tau) (rs : List Scalar) (w : Val)
      → Holds world (heap_of s.store) u rs w → ((m : Sigil) (q : ℕ) → F s m u rs q ≡ F s m t ws q) → FitsBeside s u rs w g us vs
  as_fits s t ws v g us vs fit u rs w k same = record {
    holds = k;
    rest = fit.rest;
    fine = fine_as s (Beside s W t ws g us) (Beside s R t ws g us) (Beside s W u rs g us) (Beside s R u rs g us) fit.fine (λ q. omega (arith, same W q)) (λ q. omega (arith, same R q));
  }

  pub as_from : (s : State) (t : Tau) (ws : List Scalar) (g : Entries) (us : List (List Scalar)) (u : Tau) (rs : List Scalar) → ((m : Sigil) (q : ℕ) → F s m u rs q ≡ F s m t ws q)
      → (t' : Tau) (o : values.Outcome) (q : Outcome) → FromBeside s u rs g us t' o q → FromBeside s t ws g us t' o q
  as_from s t ws g us u rs same t' o q k =
      refined_from world s (Beside s W u rs g us) (Beside s R u rs g us) (Beside s W t ws g us) (Beside s R t ws g us) t' o q (λ q. omega (arith, same W q)) (λ q. omega (arith, same R q)) k

  -- two values in place of one that has the footprints of both: two more variables
  pub two_fit : (s : State) (t : Tau) (ws : List Scalar) (v : Val) (g : Entries) (us : List (List Scalar)) (vs : List Val) → FitsBeside s t ws v g us vs
      → (t1 : Tau) (xs : List Scalar) (v1 : Val) (t2 : Tau) (ys : List Scalar) (v2 : Val) → Holds world (heap_of s.store) t1 xs v1 → Holds world (heap_of s.store) t2 ys v2
      → ((m : Sigil) (q : ℕ) → F s m t1 xs q + F s m t2 ys q ≡ F s m t ws q)
      → Fits s (push (push g (Some t1)) (Some t2)) ((us ++ xs ∷ []) ++ ys ∷ []) ((vs ++ v1 ∷ []) ++ v2 ∷ [])
      × ((u : Tau) (o : values.Outcome) (q : Outcome) → FromAll s (push (push g (Some t1)) (Some t2)) ((us ++ xs ∷ []) ++ ys ∷ []) u o q → FromBeside s t ws g us u o q)
  two_fit s t ws v g us vs fit t1 xs v1 t2 ys v2 k l sum =
      let first_held = pushed_held world (heap_of s.store) g us vs t1 xs v1 fit.rest k in
      let both_feet : (m : Sigil) (q : ℕ) → G s m (push (push g (Some t1)) (Some t2)) ((us ++ xs ∷ []) ++ ys ∷ []) q ≡ Beside s m t ws g us q = λ m q.
      three_are _ _ _ _ _ _ (pushed_foot world (heap_of s.store) (push g (Some t1)) (us ++ xs ∷ []) (vs ++ v1 ∷ []) t2 ys first_held m q)
      (pushed_foot world (heap_of s.store) g us vs t1 xs fit.rest m q) (sum m q) in (
        record {
          holds = pushed_held world (heap_of s.store) (push g (Some t1)) (us ++ xs ∷ []) (vs ++ v1 ∷ []) t2 ys v2 first_held l;
          fine = fine_as s (Beside s W t ws g us) (Beside s R t ws g us) _ _ fit.fine (both_feet W) (λ q. omega (arith, both_feet R q));
        },
        λ u o q run. refined_from world s _ _ (Beside s W t ws g us) (Beside s R t ws g us) u o q (λ x. sym (both_feet W x)) (λ x. sym (both_feet R x)) run,
      )
    where
      three_are : (a b c x y z : ℕ) → a ≡ b + y → b ≡ c + x → x + y ≡ z → a ≡ z + c
      three_are a b c x y z e f g = omega arith

  -- one more variable, beside none
  pub push_fits : (s : State) (t : Tau) (ws : List Scalar) (v : Val) (g : Entries) (us : List (List Scalar)) (vs : List Val) → FitsBeside s t ws v g us vs
      → Fits s (push g (Some t)) (us ++ ws ∷ []) (vs ++ v ∷ [])
  push_fits s t ws v g us vs fit = record {
    holds = pushed_held world (heap_of s.store) g us vs t ws v fit.rest fit.holds;
    fine =
        fine_as s (Beside s W t ws g us) (Beside s R t ws g us) (G s W (push g (Some t)) (us ++ ws ∷ [])) (G s R (push g (Some t)) (us ++ ws ∷ [])) fit.fine
        (λ q. omega (arith, pushed_foot world (heap_of s.store) g us vs t ws fit.rest W q)) (λ q. omega (arith, pushed_foot world (heap_of s.store) g us vs t ws fit.rest R q));
  }

  -- what goes on from it goes on from the value beside the variables
  pub push_from : (s : State) (t : Tau) (ws : List Scalar) (v : Val) (g : Entries) (us : List (List Scalar)) (vs : List Val) → FitsBeside s t ws v g us vs
      → (u : Tau) (o : values.Outcome) (q : Outcome) → FromAll s (push g (Some t)) (us ++ ws ∷ []) u o q → FromBeside s t ws g us u o q
  push_from s t ws v g us vs fit u o q k =
      refined_from world s (G s W (push g (Some t)) (us ++ ws ∷ [])) (G s R (push g (Some t)) (us ++ ws ∷ [])) (Beside s W t ws g us) (Beside s R t ws g us) u o q
      (λ q. omega (arith, pushed_foot world (heap_of s.store) g us vs t ws fit.rest W q)) (λ q. omega (arith, pushed_foot world (heap_of s.store) g us vs t ws fit.rest R q)) k

  -- a value that reaches nothing is let go beside the variables
  pub let_go_fits : (s : State) (t : Tau) (ws : List Scalar) (v : Val) (g : Entries) (us : List (List Scalar)) (vs : List Val) → FitsBeside s t ws v g us vs
      → ((m : Sigil) (q : ℕ) → F s m t ws q ≡ 0) → Fits s g us vs
  let_go_fits s t ws v g us vs fit none = record {
    holds = fit.rest;
    fine = fine_as s (Beside s W t ws g us) (Beside s R t ws g us) (G s W g us) (G s R g us) fit.fine (λ q. omega (arith, none W q)) (λ q. omega (arith, none R q));
  }

  -- a value that reaches nothing is held beside the variables
  pub begin_fits : (s : State) (t : Tau) (ws : List Scalar) (v : Val) (g : Entries) (us : List (List Scalar)) (vs : List Val) → Fits s g us vs → Holds world (heap_of s.store) t ws v
      → ((m : Sigil) (q : ℕ) → F s m t ws q ≡ 0) → FitsBeside s t ws v g us vs
  begin_fits s t ws v g us vs fit k none = record {
    holds = k;
    rest = fit.holds;
    fine = fine_as s (G s W g us) (G s R g us) (Beside s W t ws g us) (Beside s R t ws g us) fit.fine (λ q. omega (arith, none W q)) (λ q. omega (arith, none R q));
  }

  pub begin_from : (s : State) (t : Tau) (ws : List Scalar) (g : Entries) (us : List (List Scalar)) → ((m : Sigil) (q : ℕ) → F s m t ws q ≡ 0)
      → (u : Tau) (o : values.Outcome) (q : Outcome) → FromBeside s t ws g us u o q → FromAll s g us u o q
  begin_from s t ws g us none u o q k =
      refined_from world s (Beside s W t ws g us) (Beside s R t ws g us) (G s W g us) (G s R g us) u o q (λ q. omega (arith, none W q)) (λ q. omega (arith, none R q)) k

  pub let_go_from : (s : State) (t : Tau) (ws : List Scalar) (g : Entries) (us : List (List Scalar)) → ((m : Sigil) (q : ℕ) → F s m t ws q ≡ 0)
      → (u : Tau) (o : values.Outcome) (q : Outcome) → FromAll s g us u o q → FromBeside s t ws g us u o q
  let_go_from s t ws g us none u o q k =
      refined_from world s (G s W g us) (G s R g us) (Beside s W t ws g us) (Beside s R t ws g us) u o q (λ q. omega (arith, none W q)) (λ q. omega (arith, none R q)) k

module _ (p : Program) (among : ℕ → Bool) (world : HeapWorld) (run : Run) (calls : Calls) (runs : TermsRefine p among world run calls) where
  abbrev D : Entries → Derivation → Option Tau → Tree Note → Type 0
  D g d direction core = Derives p.functions [] g d direction core

  abbrev N : Tree Note → Type 0
  N core = IsTrue (list_all (is_clear_node p.list among) (nodes_of core))

  abbrev C : List Val → Context
  C vs = record { types = []; values = vs }

  -- a part, as the run of parts has it
  pub part_runs : (e : Tree Note) (s : State) (g : Entries) (us : List (List Scalar)) (vs : List Val) → Fits world s g us vs → (d : Derivation) (direction : Option Tau) → D g d direction e → N e → (left : ℕ)
      → FromAll world s g us (type_at e) (run e (C vs) left) (update p calls e us s left)
  part_runs e s g us vs fit d direction k n left = runs g us vs s fit.holds fit.fine d direction e k n left

  -- a last part, whose type is the node's
  pub last_part : (t : Tau) (e : Tree Note) (s : State) (g : Entries) (us : List (List Scalar)) (vs : List Val) → Fits world s g us vs → (d : Derivation) (direction : Option Tau) → D g d direction e → N e
      → t ≡ type_at e → (left : ℕ) → FromAll world s g us t (run e (C vs) left) (update p calls e us s left)
  last_part t e s g us vs fit d direction k n is left = at (λ u. FromAll world s g us u (run e (C vs) left) (update p calls e us s left)) (sym is) (part_runs e s g us vs fit d direction k n left)

  -- ---- a part that has all variables

  -- all of it, and nothing
  whole : (w r : ℕ → ℕ) → Divided w r w r (λ q. 0) (λ q. 0)
  whole w r = record { sum = λ q. omega arith; rest = λ q. omega arith; seen = λ q. omega arith }

  module _ (u : Tau) (e : Tree Note) (s : State) (g : Entries) (us : List (List Scalar)) (vs : List Val) (fit : Fits world s g us vs) where
    pub alone_then : (d : Derivation) (direction : Option Tau) → D g d direction e → N e → (left : ℕ) → (f : Val → ℕ → values.Outcome) (r : List Scalar → State → ℕ → Outcome)
        → ((v : Val) (ws : List Scalar) (after : State) (k : ℕ) → FitsAlone world after (type_at e) ws v → FromOne world after (type_at e) ws u (f v k) (r ws after k))
        → FromAll world s g us u (values.bind (run e (C vs) left) f) (bind (update p calls e us s left) r)
    alone_then d direction k n left f r then =
        part_then world s (G s W g us) (G s R g us) (G s W g us) (G s R g us) (λ q. 0) (λ q. 0) (type_at e) u (run e (C vs) left) (update p calls e us s left) f r fit.fine
        (whole (G s W g us) (G s R g us)) (λ b rs v h inside q k. inside q k) (part_runs e s g us vs fit d direction k n left) go_on
      where
        go_on : (v : Val) (ws : List Scalar) (after : State) (k : ℕ) → Next world s (G s W g us) (G s R g us) (λ q. 0) (λ q. 0) (type_at e) v ws after
            → IsRefined world after (λ q. F after W (type_at e) ws q + 0) (λ q. F after R (type_at e) ws q + 0) u (f v k) (r ws after k)
        go_on v ws after k next =
            refined_from world after (F after W (type_at e) ws) (F after R (type_at e) ws) (λ q. F after W (type_at e) ws q + 0) (λ q. F after R (type_at e) ws q + 0) u (f v k) (r ws after k)
            (λ q. omega arith) (λ q. omega arith)
            (then v ws after k (record {
              holds = next.holds;
              fine =
                  fine_as after (λ q. F after W (type_at e) ws q + 0) (λ q. F after R (type_at e) ws q + 0) (F after W (type_at e) ws) (F after R (type_at e) ws)
                  (reached_fine s (G s W g us) (G s R g us) after (λ q. F after W (type_at e) ws q + 0) (λ q. F after R (type_at e) ws q + 0) fit.fine next.reached) (λ q. omega arith) (λ q. omega arith);
            }))

  -- ---- a part that has the first side of the variables

  module _ (u : Tau) (e : Tree Note) (os : List Observer) (m : List Mark) (s : State) (g : Entries) (us : List (List Scalar)) (vs : List Val) (sp : Splits [] os m g) (fit : Fits world s g us vs) where
    two : Sides world (heap_of s.store) os m g us vs
    two = sides world (heap_of s.store) os m g us vs sp fit.holds

    -- it begins where all is fine
    first_fits : Fits world s (first m g) us vs
    first_fits = record {
      holds = two.left;
      fine =
          (parts_are_fine (heap_of s.store) s.store.top (G s W g us) (G s R g us) (G s W (first m g) us) (G s R (first m g) us) (G s W (second m g) us) (G s R (second m g) us) fit.fine
          two.divided.sum two.divided.rest two.divided.seen).0;
    }

    -- what it gives reads nothing that the whole didn't
    abbrev ReadsBack : Type 0
    ReadsBack =
        (b : State) (ws : List Scalar) (v : Val) → Holds world (heap_of b.store) (type_at e) ws v → ((q : ℕ) → 1 ≤ F b R (type_at e) ws q → 1 ≤ G s R (first m g) us q)
        → (q : ℕ) → 1 ≤ F b R (type_at e) ws q → 1 ≤ G s R g us q

    -- so it is where nothing is observed, and where nothing that is read escapes
    pub plain_back : os ≡ [] → ReadsBack
    plain_back is b ws v h inside q k = omega (arith, two.plain is q, inside q k)

    pub escaping_back : (kinds [] (type_at e)).escape ≡ true → ReadsBack
    escaping_back escapes b ws v h inside q k = absurd (let none = no_reads (heap_of b.store) [] (type_at e) ws q escapes in omega arith)

    -- what is left of the variables holds in another state, with the footprints that it had
    left_there : (v : Val) (ws : List Scalar) (after : State) → Next world s (G s W g us) (G s R g us) (G s W (second m g) us) (G s R (second m g) us) (type_at e) v ws after
        → HoldsContext world (heap_of after.store) (second m g) us vs × ((m' : Sigil) (q : ℕ) → G after m' (second m g) us q ≡ G s m' (second m g) us q)
    left_there v ws after next = same_context world (heap_of s.store) (heap_of after.store) (second m g) us vs two.right next.near

    pub first_then : ReadsBack → (d : Derivation) (direction : Option Tau) → D (first m g) d direction e → N e → (left : ℕ)
        → (f : Val → ℕ → values.Outcome) (r : List Scalar → State → ℕ → Outcome)
        → ((v : Val) (ws : List Scalar) (after : State) (k : ℕ) → FitsBeside world after (type_at e) ws v (second m g) us vs
        → FromBeside world after (type_at e) ws (second m g) us u (f v k) (r ws after k))
        → FromAll world s g us u (values.bind (run e (C vs) left) f) (bind (update p calls e us s left) r)
    first_then back d direction k n left f r then =
        part_then world s (G s W g us) (G s R g us) (G s W (first m g) us) (G s R (first m g) us) (G s W (second m g) us) (G s R (second m g) us) (type_at e) u
        (run e (C vs) left) (update p calls e us s left) f r fit.fine two.divided back (part_runs e s (first m g) us vs first_fits d direction k n left) go_on
      where
        go_on : (v : Val) (ws : List Scalar) (after : State) (k : ℕ)
            → Next world s (G s W g us) (G s R g us) (G s W (second m g) us) (G s R (second m g) us) (type_at e) v ws after
            → IsRefined world after (WasLeft after s W (type_at e) ws (second m g) us) (WasLeft after s R (type_at e) ws (second m g) us) u (f v k) (r ws after k)
        go_on v ws after k next =
            let there = left_there v ws after next in
            refined_from world after (Beside after W (type_at e) ws (second m g) us) (Beside after R (type_at e) ws (second m g) us) (WasLeft after s W (type_at e) ws (second m g) us) (WasLeft after s R (type_at e) ws (second m g) us) u (f v k) (r ws after k)
            (λ q. omega (arith, there.1 W q)) (λ q. omega (arith, there.1 R q))
            (then v ws after k (record {
              holds = next.holds;
              rest = there.0;
              fine =
                  fine_as after (WasLeft after s W (type_at e) ws (second m g) us) (WasLeft after s R (type_at e) ws (second m g) us) (Beside after W (type_at e) ws (second m g) us) (Beside after R (type_at e) ws (second m g) us)
                  (reached_fine s (G s W g us) (G s R g us) after (WasLeft after s W (type_at e) ws (second m g) us) (WasLeft after s R (type_at e) ws (second m g) us) fit.fine next.reached) (λ q. omega (arith, there.1 W q)) (λ q. omega (arith, there.1 R q));
            }))

  -- ---- a part beside a value that is held

  module _ (u : Tau) (e : Tree Note) (s : State) (t : Tau) (ws : List Scalar) (v : Val) (g : Entries) (us : List (List Scalar)) (vs : List Val) (fit : FitsBeside world s t ws v g us vs) where
    -- the variables, and then the value
    apart : Divided (Beside s W t ws g us) (Beside s R t ws g us) (G s W g us) (G s R g us) (F s W t ws) (F s R t ws)
    apart = record { sum = λ q. omega arith; rest = λ q. omega arith; seen = λ q. omega arith }

    pub rest_fits : Fits world s g us vs
    rest_fits = record {
      holds = fit.rest;
      fine =
          (parts_are_fine (heap_of s.store) s.store.top (Beside s W t ws g us) (Beside s R t ws g us) (G s W g us) (G s R g us) (F s W t ws) (F s R t ws) fit.fine
          apart.sum apart.rest apart.seen).0;
    }

    pub aside_then : (d : Derivation) (direction : Option Tau) → D g d direction e → N e → (left : ℕ) → (f : Val → ℕ → values.Outcome) (r : List Scalar → State → ℕ → Outcome)
        → ((w : Val) (rs : List Scalar) (after : State) (k : ℕ) → FitBoth world after t ws v (type_at e) rs w → FromBoth world after t ws (type_at e) rs u (f w k) (r rs after k))
        → FromBeside world s t ws g us u (values.bind (run e (C vs) left) f) (bind (update p calls e us s left) r)
    aside_then d direction k n left f r then =
        part_then world s (Beside s W t ws g us) (Beside s R t ws g us) (G s W g us) (G s R g us) (F s W t ws) (F s R t ws) (type_at e) u
        (run e (C vs) left) (update p calls e us s left) f r fit.fine apart (λ b rs w h inside q k. omega (arith, inside q k)) (part_runs e s g us vs rest_fits d direction k n left) go_on
      where
        go_on : (w : Val) (rs : List Scalar) (after : State) (k : ℕ) → Next world s (Beside s W t ws g us) (Beside s R t ws g us) (F s W t ws) (F s R t ws) (type_at e) w rs after
            → IsRefined world after (WasHeld after s W (type_at e) rs t ws) (WasHeld after s R (type_at e) rs t ws) u (f w k) (r rs after k)
        go_on w rs after k next =
            let there = holds_same world (heap_of s.store) (heap_of after.store) t ws v fit.holds next.near in
            refined_from world after (Both after W t ws (type_at e) rs) (Both after R t ws (type_at e) rs) (WasHeld after s W (type_at e) rs t ws) (WasHeld after s R (type_at e) rs t ws) u (f w k) (r rs after k)
            (λ q. omega (arith, there.1 W q)) (λ q. omega (arith, there.1 R q))
            (then w rs after k (record {
              one = there.0;
              two = next.holds;
              fine =
                  fine_as after (WasHeld after s W (type_at e) rs t ws) (WasHeld after s R (type_at e) rs t ws) (Both after W t ws (type_at e) rs) (Both after R t ws (type_at e) rs)
                  (reached_fine s (Beside s W t ws g us) (Beside s R t ws g us) after (WasHeld after s W (type_at e) rs t ws) (WasHeld after s R (type_at e) rs t ws) fit.fine next.reached) (λ q. omega (arith, there.1 W q)) (λ q. omega (arith, there.1 R q));
            }))

  -- ---- a part that has the first side of the variables, beside a value that is held

  module _ (u : Tau) (e : Tree Note) (m : List Mark) (s : State) (t : Tau) (ws : List Scalar) (v : Val) (g : Entries) (us : List (List Scalar)) (vs : List Val) (sp : Splits [] [] m g)
      (fit : FitsBeside world s t ws v g us vs) where
    two_sides : Sides world (heap_of s.store) [] m g us vs
    two_sides = sides world (heap_of s.store) [] m g us vs sp fit.rest

    -- the first side, and then the value with the second
    apart_sides : Divided (Beside s W t ws g us) (Beside s R t ws g us) (G s W (first m g) us) (G s R (first m g) us) (Beside s W t ws (second m g) us) (Beside s R t ws (second m g) us)
    apart_sides = record {
      sum = λ q. omega (arith, two_sides.divided.sum q);
      rest = λ q. omega (arith, two_sides.divided.rest q);
      seen = λ q. omega (arith, two_sides.plain refl q);
    }

    side_fits : Fits world s (first m g) us vs
    side_fits = record {
      holds = two_sides.left;
      fine =
          (parts_are_fine (heap_of s.store) s.store.top (Beside s W t ws g us) (Beside s R t ws g us) (G s W (first m g) us) (G s R (first m g) us) (Beside s W t ws (second m g) us)
          (Beside s R t ws (second m g) us) fit.fine apart_sides.sum apart_sides.rest apart_sides.seen).0;
    }

    pub side_then : (d : Derivation) (direction : Option Tau) → D (first m g) d direction e → N e → (left : ℕ) → (f : Val → ℕ → values.Outcome) (r : List Scalar → State → ℕ → Outcome)
        → ((w : Val) (rs : List Scalar) (after : State) (k : ℕ) → FitThree world after t ws v (type_at e) rs w (second m g) us vs
        → FromThree world after t ws (type_at e) rs (second m g) us u (f w k) (r rs after k))
        → FromBeside world s t ws g us u (values.bind (run e (C vs) left) f) (bind (update p calls e us s left) r)
    side_then d direction k n left f r then =
        part_then world s (Beside s W t ws g us) (Beside s R t ws g us) (G s W (first m g) us) (G s R (first m g) us) (Beside s W t ws (second m g) us) (Beside s R t ws (second m g) us) (type_at e) u
        (run e (C vs) left) (update p calls e us s left) f r fit.fine apart_sides (λ b rs w h inside q k. omega (arith, inside q k, two_sides.plain refl q))
        (part_runs e s (first m g) us vs side_fits d direction k n left) go_on
      where
        go_on : (w : Val) (rs : List Scalar) (after : State) (k : ℕ)
            → Next world s (Beside s W t ws g us) (Beside s R t ws g us) (Beside s W t ws (second m g) us) (Beside s R t ws (second m g) us) (type_at e) w rs after
            → IsRefined world after (WasBoth after s W (type_at e) rs t ws (second m g) us) (WasBoth after s R (type_at e) rs t ws (second m g) us) u (f w k) (r rs after k)
        go_on w rs after k next =
            let one = holds_same world (heap_of s.store) (heap_of after.store) t ws v fit.holds (λ q i. next.near q (omega arith)) in
            let there = same_context world (heap_of s.store) (heap_of after.store) (second m g) us vs two_sides.right (λ q i. next.near q (omega arith)) in
            refined_from world after (Three after W t ws (type_at e) rs (second m g) us) (Three after R t ws (type_at e) rs (second m g) us) (WasBoth after s W (type_at e) rs t ws (second m g) us) (WasBoth after s R (type_at e) rs t ws (second m g) us) u (f w k) (r rs after k)
            (λ q. omega (arith, one.1 W q, there.1 W q)) (λ q. omega (arith, one.1 R q, there.1 R q))
            (then w rs after k (record {
              one = one.0;
              two = next.holds;
              rest = there.0;
              fine =
                  fine_as after (WasBoth after s W (type_at e) rs t ws (second m g) us) (WasBoth after s R (type_at e) rs t ws (second m g) us) (Three after W t ws (type_at e) rs (second m g) us) (Three after R t ws (type_at e) rs (second m g) us)
                  (reached_fine s (Beside s W t ws g us) (Beside s R t ws g us) after (WasBoth after s W (type_at e) rs t ws (second m g) us) (WasBoth after s R (type_at e) rs t ws (second m g) us) fit.fine next.reached)
                  (λ q. omega (arith, one.1 W q, there.1 W q)) (λ q. omega (arith, one.1 R q, there.1 R q));
            }))
