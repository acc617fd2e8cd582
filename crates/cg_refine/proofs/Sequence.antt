-- What is reached by steps, and how what is refined goes on from it: a part and then the rest, a cost, and a value that is given at once.
use Rattle.std.proofs.Common.{◌≡◌, ℕ, zero, suc, ◌+◌, ◌≤◌, Bool, List, [], ◌++◌, append_assoc, refl, sym, ap, ◌∙◌, subst as at, arith}
use Rattle.std.proofs.lemmas.List.{append-nil}
use Rattle.cg_base.specs.declared.kind.Sigil.{Sigil}
use Rattle.cg_base.specs.declared.kind.Sigil.TheVariants.{R, W}
use Rattle.cg_base.specs.Types.{Tau}
use Rattle.cg_eval_def.specs.Evaluation as values
use Rattle.cg_eval_def.specs.Evaluation.{spent, stuck}
use Rattle.cg_heap.specs.Calls.{heap_of}
use Rattle.cg_heap.specs.declared.cell.Scalar.{Scalar}
use Rattle.cg_heap.specs.Reps.{Heap, HeapWorld, Holds, foot}
use Rattle.cg_heap.specs.Steps.{IsFine, Step, side}
use Rattle.cg_heap_laws.proofs.Changes.{step_fine}
use Rattle.cg_heap_laws.proofs.Steps.{nothing_is_a_step, steps_follow, steps_stand_beside}
use Rattle.cg_refine.specs.Laws.{TypesAreKnown}
use Rattle.cg_refine_def.specs.Contexts.{Divided}
use Rattle.cg_refine_def.specs.Refined.{IsGiven, IsRefined, Reached, side_of}
use Rattle.cg_update.specs.Calls.{Program, types_of}
use Rattle.cg_update.specs.Outcomes.{State, Outcome, gives, bind, where_true, pay}
use Rattle.cg_update.specs.Updates.{formed}
use Rattle.cg_update_laws.proofs.Held.{holds_machine}
use Rattle.cg_value.specs.Values.{Val}

-- ---- from state to state

-- what stands behind what was before, and more behind that
more_behind : (xs ys zs ms ns : List ℕ) → ys ≡ xs ++ ms → zs ≡ ys ++ ns → zs ≡ xs ++ (ms ++ ns)
more_behind xs ys zs ms ns e e' = e' ∙ ap (λ us. us ++ ns) e ∙ append_assoc xs ms ns

-- nothing is done
pub reached_none : (s : State) (w r w' r' : ℕ → ℕ) → IsFine (side_of s w r) → ((q : ℕ) → w' q ≡ w q) → ((q : ℕ) → 1 ≤ r' q → 1 ≤ r q) → Reached s w r s w' r'
reached_none s w r w' r' f e b = record {
  made = [];
  freed = [];
  all_made = sym (append-nil s.made);
  all_freed = sym (append-nil s.freed);
  step = nothing_is_a_step (heap_of s.store) s.store.top w r w' r' f e b;
}

-- one behind the other
pub reached_then : (a : State) (w r : ℕ → ℕ) (b : State) (w' r' : ℕ → ℕ) (c : State) (w'' r'' : ℕ → ℕ) → IsFine (side_of a w r) → Reached a w r b w' r' → Reached b w' r' c w'' r''
    → Reached a w r c w'' r''
reached_then a w r b w' r' c w'' r'' f x y = record {
  made = x.made ++ y.made;
  freed = x.freed ++ y.freed;
  all_made = more_behind a.made b.made c.made x.made y.made x.all_made y.all_made;
  all_freed = more_behind a.freed b.freed c.freed x.freed y.freed x.all_freed y.all_freed;
  step = steps_follow (side_of a w r) (side_of b w' r') (side_of c w'' r'') x.made x.freed y.made y.freed f x.step y.step;
}

-- a step between the same heaps, where the same may be written, before no less be read and after no more
step_as : (h h' : Heap) (top top' : ℕ) (made freed : List ℕ) (w r w1 r1 w' r' w1' r1' : ℕ → ℕ) → Step (side h top w r) made freed (side h' top' w' r')
    → ((q : ℕ) → w1 q ≡ w q) → ((q : ℕ) → 1 ≤ r q → 1 ≤ r1 q) → ((q : ℕ) → w1' q ≡ w' q) → ((q : ℕ) → 1 ≤ r1' q → 1 ≤ r' q)
    → Step (side h top w1 r1) made freed (side h' top' w1' r1')
step_as h h' top top' made freed w r w1 r1 w' r' w1' r1' s e b e' b' = record {
  rise = s.rise;
  above = s.above;
  reads_less = λ q k. b q (s.reads_less q (b' q k));
  balance = λ q. omega (arith, s.balance q, e q, e' q);
  inert = λ q z n. s.inert q (sym (e q) ∙ z) n;
  lost = s.lost;
  fresh = s.fresh;
  once = s.once;
}

-- to where the same may be written, and no more be read
pub reached_as : (a : State) (w r : ℕ → ℕ) (b : State) (w' r' w'' r'' : ℕ → ℕ) → Reached a w r b w' r' → ((q : ℕ) → w'' q ≡ w' q) → ((q : ℕ) → 1 ≤ r'' q → 1 ≤ r' q)
    → Reached a w r b w'' r''
reached_as a w r b w' r' w'' r'' x e k = record {
  made = x.made;
  freed = x.freed;
  all_made = x.all_made;
  all_freed = x.all_freed;
  step = step_as (heap_of a.store) (heap_of b.store) a.store.top b.store.top x.made x.freed w r w r w' r' w'' r'' x.step (λ q. refl) (λ q i. i) e k;
}

-- from where the same may be written, and no less be read
reached_from : (a : State) (w r : ℕ → ℕ) (b : State) (w' r' w1 r1 : ℕ → ℕ) → Reached a w r b w' r' → ((q : ℕ) → w1 q ≡ w q) → ((q : ℕ) → 1 ≤ r q → 1 ≤ r1 q)
    → Reached a w1 r1 b w' r'
reached_from a w r b w' r' w1 r1 x e k = record {
  made = x.made;
  freed = x.freed;
  all_made = x.all_made;
  all_freed = x.all_freed;
  step = step_as (heap_of a.store) (heap_of b.store) a.store.top b.store.top x.made x.freed w r w1 r1 w' r' w' r' x.step e k (λ q. refl) (λ q i. i);
}

-- all is fine again
pub reached_fine : (a : State) (w r : ℕ → ℕ) (b : State) (w' r' : ℕ → ℕ) → IsFine (side_of a w r) → Reached a w r b w' r' → IsFine (side_of b w' r')
reached_fine a w r b w' r' f x = step_fine (side_of a w r) (side_of b w' r') x.made x.freed f x.step

-- so it is where the same may be written, and no more be read
pub fine_as : (s : State) (w r w' r' : ℕ → ℕ) → IsFine (side_of s w r) → ((q : ℕ) → w' q ≡ w q) → ((q : ℕ) → r' q ≤ r q) → IsFine (side_of s w' r')
fine_as s w r w' r' f e k = record {
  apart = λ q i. as_apart (w q) (r q) (w' q) (r' q) i (f.apart q) (e q) (k q);
  low = λ q i. omega (arith, f.low q i, e q, k q);
  above = f.above;
}
  where
    as_apart : (w r w' r' : ℕ) → 1 ≤ w' → (1 ≤ w → w + r ≤ 1) → w' ≡ w → r' ≤ r → w' + r' ≤ 1
    as_apart w r w' r' i a e k = grind arith

-- a part, beside the rest: the whole is reached, and the rest is as it was
pub reached_beside : (s : State) (w r w1 r1 w2 r2 : ℕ → ℕ) (after : State) (w' r' : ℕ → ℕ) → IsFine (side_of s w r) → Divided w r w1 r1 w2 r2 → Reached s w1 r1 after w' r'
    → ((q : ℕ) → 1 ≤ r' q → 1 ≤ r q)
    → Reached s w r after (λ q. w' q + w2 q) (λ q. r' q + r2 q) × ((q : ℕ) → 1 ≤ w2 q + r2 q → heap_of after.store q ≡ heap_of s.store q)
reached_beside s w r w1 r1 w2 r2 after w' r' f d x back =
    let y = steps_stand_beside (heap_of s.store) (heap_of after.store) s.store.top after.store.top x.made x.freed w r w1 r1 w2 r2 w' r' f d.sum d.rest d.seen x.step back in
    (record { made = x.made; freed = x.freed; all_made = x.all_made; all_freed = x.all_freed; step = y.0 }, y.1)

-- ---- what is refined

-- What a part leaves, where the rest may write w2 and read r2: its value is represented, the rest is as it was, and both are reached.
pub record Next (world : HeapWorld) (s : State) (w r w2 r2 : ℕ → ℕ) (t : Tau) (v : Val) (ws : List Scalar) (after : State) : Type 0 where
  pub holds : Holds world (heap_of after.store) t ws v
  pub near : (q : ℕ) → 1 ≤ w2 q + r2 q → heap_of after.store q ≡ heap_of s.store q
  pub reached : Reached s w r after (λ q. foot (heap_of after.store) W t ws q + w2 q) (λ q. foot (heap_of after.store) R t ws q + r2 q)

module _ (world : HeapWorld) where
  -- what is refined from a state that is reached
  pub refined_after : (a : State) (w r : ℕ → ℕ) (b : State) (w' r' : ℕ → ℕ) (t : Tau) (o : values.Outcome) (q : Outcome) → IsFine (side_of a w r) → Reached a w r b w' r'
      → IsRefined world b w' r' t o q → IsRefined world a w r t o q
  refined_after a w r b w' r' t spent q f x y = tt
  refined_after a w r b w' r' t stuck q f x y = tt
  refined_after a w r b w' r' t (values.gives v left) q f x y = record {
    scalars = y.scalars;
    state = y.state;
    is = y.is;
    holds = y.holds;
    reached = reached_then a w r b w' r' y.state (foot (heap_of y.state.store) W t y.scalars) (foot (heap_of y.state.store) R t y.scalars) f x y.reached;
  }

  -- from where the same may be written and read
  pub refined_from : (s : State) (w r w' r' : ℕ → ℕ) (t : Tau) (o : values.Outcome) (q : Outcome) → ((q : ℕ) → w' q ≡ w q) → ((q : ℕ) → r' q ≡ r q)
      → IsRefined world s w r t o q → IsRefined world s w' r' t o q
  refined_from s w r w' r' t spent q e k y = tt
  refined_from s w r w' r' t stuck q e k y = tt
  refined_from s w r w' r' t (values.gives v left) q e k y = record {
    scalars = y.scalars;
    state = y.state;
    is = y.is;
    holds = y.holds;
    reached = reached_from s w r y.state (foot (heap_of y.state.store) W t y.scalars) (foot (heap_of y.state.store) R t y.scalars) w' r' y.reached e (λ q i. omega (arith, k q));
  }

  -- by an update that gives the same
  pub same_refined : (s : State) (w r : ℕ → ℕ) (t : Tau) (o : values.Outcome) (q q' : Outcome) → q' ≡ q → IsRefined world s w r t o q → IsRefined world s w r t o q'
  same_refined s w r t o q q' e y = at (IsRefined world s w r t o) (sym e) y

  -- a cost of 1, and then the rest
  pub pay_refined : (s : State) (w r : ℕ → ℕ) (u : Tau) (left : ℕ) (f : ℕ → values.Outcome) (g : ℕ → Outcome) → ((rest : ℕ) → IsRefined world s w r u (f rest) (g rest))
      → IsRefined world s w r u (values.pay left f) (pay left g)
  pay_refined s w r u zero f g k = tt
  pay_refined s w r u (suc left) f g k = k left

  -- at another type that holds the same, and reaches the same
  pub wider_refined : (s : State) (w r : ℕ → ℕ) (t u : Tau) (o : values.Outcome) (q : Outcome)
      → ((m : State) (us : List Scalar) (v : Val) → Holds world (heap_of m.store) t us v
      → Holds world (heap_of m.store) u us v × ((g : Sigil) (q : ℕ) → foot (heap_of m.store) g u us q ≡ foot (heap_of m.store) g t us q))
      → IsRefined world s w r t o q → IsRefined world s w r u o q
  wider_refined s w r t u spent q k y = tt
  wider_refined s w r t u stuck q k y = tt
  wider_refined s w r t u (values.gives v left) q k y =
      let z = k y.state y.scalars v y.holds in
      let feet : (q : ℕ) → foot (heap_of y.state.store) R u y.scalars q ≡ foot (heap_of y.state.store) R t y.scalars q = z.1 R in
      record {
        scalars = y.scalars;
        state = y.state;
        is = y.is;
        holds = z.0;
        reached = reached_as s w r y.state (foot (heap_of y.state.store) W t y.scalars) (foot (heap_of y.state.store) R t y.scalars) (foot (heap_of y.state.store) W u y.scalars)
            (foot (heap_of y.state.store) R u y.scalars) y.reached (z.1 W) (λ q i. omega (arith, feet q));
      }

  -- what is given is a machine value of its type
  pub formed_refined : (p : Program) (among : ℕ → Bool) → TypesAreKnown p among world → (s : State) (w r : ℕ → ℕ) (t : Tau) (o : values.Outcome) (q : Outcome)
      → IsRefined world s w r t o q → IsRefined world s w r t o (formed p t q)
  formed_refined p among known s w r t spent q y = tt
  formed_refined p among known s w r t stuck q y = tt
  formed_refined p among known s w r t (values.gives v left) q y = record {
    scalars = y.scalars;
    state = y.state;
    is = ap (formed p t) y.is ∙ ap (λ b. where_true b (gives y.scalars y.state left)) (holds_machine world (heap_of y.state.store) (types_of p) known t y.scalars v y.holds);
    holds = y.holds;
    reached = y.reached;
  }

  -- a value that is given at once, and reaches what stands there
  pub given_now : (s : State) (w r : ℕ → ℕ) (t : Tau) (v : Val) (left : ℕ) (us : List Scalar) → IsFine (side_of s w r) → Holds world (heap_of s.store) t us v
      → ((q : ℕ) → foot (heap_of s.store) W t us q ≡ w q) → ((q : ℕ) → 1 ≤ foot (heap_of s.store) R t us q → 1 ≤ r q)
      → IsGiven world s w r t v left (gives us s left)
  given_now s w r t v left us f holds e b = record {
    scalars = us;
    state = s;
    is = refl;
    holds = holds;
    reached = reached_none s w r (foot (heap_of s.store) W t us) (foot (heap_of s.store) R t us) f e b;
  }

  -- what a part that is given leaves
  next_of : (s : State) (w r w1 r1 w2 r2 : ℕ → ℕ) (t : Tau) (v : Val) (left : ℕ) (q : Outcome) → IsFine (side_of s w r) → Divided w r w1 r1 w2 r2 → (y : IsGiven world s w1 r1 t v left q)
      → ((q : ℕ) → 1 ≤ foot (heap_of y.state.store) R t y.scalars q → 1 ≤ r q) → Next world s w r w2 r2 t v y.scalars y.state
  next_of s w r w1 r1 w2 r2 t v left q f d y back =
      let z = reached_beside s w r w1 r1 w2 r2 y.state (foot (heap_of y.state.store) W t y.scalars) (foot (heap_of y.state.store) R t y.scalars) f d y.reached back in
      record { holds = y.holds; near = z.1; reached = z.0 }

  -- A part, and then the rest: from what the part leaves. What its value reads was read by the whole.
  pub part_then : (s : State) (w r w1 r1 w2 r2 : ℕ → ℕ) (t u : Tau) (o : values.Outcome) (q : Outcome) (f : Val → ℕ → values.Outcome) (g : List Scalar → State → ℕ → Outcome)
      → IsFine (side_of s w r) → Divided w r w1 r1 w2 r2
      → ((m : State) (us : List Scalar) (v : Val) → Holds world (heap_of m.store) t us v → ((q : ℕ) → 1 ≤ foot (heap_of m.store) R t us q → 1 ≤ r1 q)
      → (q : ℕ) → 1 ≤ foot (heap_of m.store) R t us q → 1 ≤ r q)
      → IsRefined world s w1 r1 t o q
      → ((v : Val) (ws : List Scalar) (after : State) (left : ℕ) → Next world s w r w2 r2 t v ws after
      → IsRefined world after (λ q. foot (heap_of after.store) W t ws q + w2 q) (λ q. foot (heap_of after.store) R t ws q + r2 q) u (f v left) (g ws after left))
      → IsRefined world s w r u (values.bind o f) (bind q g)
  part_then s w r w1 r1 w2 r2 t u spent q f g fine d back y k = tt
  part_then s w r w1 r1 w2 r2 t u stuck q f g fine d back y k = tt
  part_then s w r w1 r1 w2 r2 t u (values.gives v left) q f g fine d back y k =
      let n = next_of s w r w1 r1 w2 r2 t v left q fine d y (back y.state y.scalars v y.holds y.reached.step.reads_less) in
      same_refined s w r u (f v left) (g y.scalars y.state left) (bind q g) (ap (λ q. bind q g) y.is)
      (refined_after s w r y.state (λ q. foot (heap_of y.state.store) W t y.scalars q + w2 q) (λ q. foot (heap_of y.state.store) R t y.scalars q + r2 q) u (f v left) (g y.scalars y.state left) fine n.reached
      (k v y.scalars y.state left n))
