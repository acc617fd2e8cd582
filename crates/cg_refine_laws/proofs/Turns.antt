-- Turns of an iterator: where each call is refined, so are all turns, from where what they go over, what is handed on and what is observed
-- are represented.
use Rattle.std.proofs.Common.{◌≡◌, ℕ, ◌+◌, true, false, IsTrue, List, [], ◌∷◌, slice_get, sym, ap, subst as at, arith}
use Rattle.std.specs.Prelude.{if◌then◌else◌}
use Rattle.cg_base.specs.declared.fun.Lib.{Lib}
use Rattle.cg_base.specs.declared.kind.Sigil.{Sigil}
use Rattle.cg_base.specs.declared.kind.Sigil.TheVariants.{R, W}
use Rattle.cg_base.specs.Types.{Tau, arrow}
use Rattle.cg_eval_def.specs.Evaluation as values
use Rattle.cg_eval_def.specs.Evaluation.{Run, Table}
use Rattle.cg_eval_laws.proofs.Turns.{Each}
use Rattle.cg_eval_operations.specs.Iterators as on_values
use Rattle.cg_heap.specs.Calls.{heap_of}
use Rattle.cg_heap.specs.declared.cell.Scalar.{Scalar}
use Rattle.cg_heap.specs.Reps.{Heap, HeapWorld, Holds, first_number}
use Rattle.cg_heap.specs.Steps.{IsFine}
use Rattle.cg_heap_laws.proofs.Same.{holds_same}
use Rattle.cg_heap_laws.proofs.Steps.{parts_are_fine}
use Rattle.cg_inst.proofs.Names.{by_cases}
use Rattle.cg_refine.proofs.Sequence.{Next, fine_as, part_then, pay_refined, reached_fine, refined_after, refined_from, same_refined}
use Rattle.cg_refine.proofs.Then.{F}
use Rattle.cg_refine_def.specs.Contexts.{Divided}
use Rattle.cg_refine_laws.specs.Laws.{TurnsRefine}
use Rattle.cg_refine_def.specs.Refined.{IsRefined, Reached, side_of}
use Rattle.cg_update.specs.Calls.{Program}
use Rattle.cg_update.specs.Outcomes.{State, Outcome, bind, gives, where_true, with_store}
use Rattle.cg_update.specs.Turns as on_scalars
use Rattle.cg_update.specs.Turns.{Argument, field_in, has_array, turns, written}
use Rattle.cg_update.specs.Updates as updates
use Rattle.cg_update.specs.Updates.{Calls, calls_source}
use Rattle.cg_update_laws.specs.Laws.{is_turn}
use Rattle.cg_value.specs.Forms.{field}
use Rattle.cg_value.specs.Values.{Val}

-- Of an iterator with an argument: what it goes over, what is handed on, what is observed, what is asked, what a turn gives, and what the
-- whole gives, by their types.
module _ (world : HeapWorld) (lib : Lib) (types : List Tau) (x : Argument) (over carry observed takes result whole : Tau) (value : Val) where
  -- what is observed
  abbrev pub watched : Val
  watched = field value 5

  abbrev pub H : State → Tau → List Scalar → Val → Type 0
  H s t us v = Holds world (heap_of s.store) t us v

  -- what is reached beside what is handed on, between turns, and behind a call
  abbrev pub Rest : State → Sigil → ℕ → ℕ
  Rest s m q = F s m over (field_in x 0) q + F s m observed (field_in x 5) q

  abbrev pub Between : State → Sigil → List Scalar → ℕ → ℕ
  Between s m us q = F s m carry us q + (F s m over (field_in x 0) q + F s m observed (field_in x 5) q)

  abbrev pub Behind : State → Sigil → List Scalar → ℕ → ℕ
  Behind s m ws q = F s m result ws q + (F s m over (field_in x 0) q + F s m observed (field_in x 5) q)

  -- all is represented, and fine: between turns, and behind a call
  pub record AreKept (s : State) (a y : Val) (us : List Scalar) : Type 0 where
    pub array : H s over (field_in x 0) a
    pub carried : H s carry us y
    pub seen : H s observed (field_in x 5) watched
    pub fine : IsFine (side_of s (Between s W us) (Between s R us))

  pub record AreLeft (s : State) (a v : Val) (ws : List Scalar) : Type 0 where
    pub array : H s over (field_in x 0) a
    pub given : H s result ws v
    pub seen : H s observed (field_in x 5) watched
    pub fine : IsFine (side_of s (Behind s W ws) (Behind s R ws))

  -- a state for the next turn, from that behind a call
  pub record IsOnward (s after : State) (ws us : List Scalar) (a y : Val) : Type 0 where
    pub array : H after over (field_in x 0) a
    pub carried : H after carry us y
    pub seen : H after observed (field_in x 5) watched
    pub reached : Reached s (Behind s W ws) (Behind s R ws) after (Between after W us) (Between after R us)

  -- What an iterator does in each turn, at indices of some kind.
  pub record AreTurns (Index : ℕ → Type 0) : Type 0 where
    -- what is observed isn't written
    pub quiet : (s : State) (q : ℕ) → F s W observed (field_in x 5) q ≡ 0
    -- what is asked is represented, and reaches what is handed on and what is observed
    pub asks : (s : State) (i : ℕ) (a y : Val) (us : List Scalar) → Index i → H s over (field_in x 0) a → H s carry us y → H s observed (field_in x 5) watched
        → H s takes (on_scalars.asked lib x i us s.store) (on_values.asked lib watched i a y)
    pub reaches : (s : State) (i : ℕ) (a y : Val) (us : List Scalar) → H s over (field_in x 0) a → H s carry us y → H s observed (field_in x 5) watched
        → (m : Sigil) (q : ℕ) → F s m takes (on_scalars.asked lib x i us s.store) q ≡ F s m carry us q + F s m observed (field_in x 5) q
    -- the array, where there is one, is there
    pub array : (s : State) (a : Val) → H s over (field_in x 0) a → has_array lib types x s.store ≡ true
    -- the same turn is the last, and gives what the whole gives
    pub stops : (s : State) (ws : List Scalar) (v : Val) → H s result ws v → on_values.stops lib v ≡ on_scalars.stops lib x ws
    pub stopped : (s : State) (a v : Val) (ws : List Scalar) (left : ℕ) → on_scalars.stops lib x ws ≡ true → AreLeft s a v ws
        → IsRefined world s (Behind s W ws) (Behind s R ws) whole (values.gives v left) (gives ws s left)
    -- another goes on
    pub goes_on : (s : State) (i : ℕ) (a v : Val) (ws : List Scalar) → on_scalars.stops lib x ws ≡ false → AreLeft s a v ws
        → IsOnward s (with_store (written lib x i ws s.store) s) ws (on_scalars.carried lib x ws) (on_values.changed lib i a v) (on_values.carried lib v)
    -- the end
    pub ended : (s : State) (a y : Val) (us : List Scalar) (left : ℕ) → AreKept s a y us
        → IsRefined world s (Between s W us) (Between s R us) whole (values.gives (on_values.ended lib a y) left) (gives (on_scalars.ended lib x us) s left)

  -- a call of what is asked, and the rest beside it
  asked_beside : (Index : ℕ → Type 0) → AreTurns Index → (s : State) (i : ℕ) (a y : Val) (us : List Scalar) → AreKept s a y us
      → Divided (Between s W us) (Between s R us) (F s W takes (on_scalars.asked lib x i us s.store)) (F s R takes (on_scalars.asked lib x i us s.store)) (Rest s W) (Rest s R)
  asked_beside Index t s i a y us k = record {
    sum = λ q. omega (arith, t.reaches s i a y us k.array k.carried k.seen W q, t.quiet s q);
    rest = λ q. omega arith;
    seen = λ q. omega (arith, t.reaches s i a y us k.array k.carried k.seen R q);
  }

  -- what a call leaves, where the rest is as it was
  module _ (s : State) (w r : ℕ → ℕ) (after : State) (a v : Val) (ws : List Scalar) (fine : IsFine (side_of s w r)) (array : H s over (field_in x 0) a) (seen : H s observed (field_in x 5) watched)
      (next : Next world s w r (Rest s W) (Rest s R) result v ws after) where
    abbrev WasBehind : Sigil → ℕ → ℕ
    WasBehind m q = F after m result ws q + (F s m over (field_in x 0) q + F s m observed (field_in x 5) q)

    -- the array
    array_there : H after over (field_in x 0) a × ((m : Sigil) (q : ℕ) → F after m over (field_in x 0) q ≡ F s m over (field_in x 0) q)
    array_there = holds_same world (heap_of s.store) (heap_of after.store) over (field_in x 0) a array (λ q i. next.near q (omega arith))

    -- and what is observed
    seen_there : H after observed (field_in x 5) watched × ((m : Sigil) (q : ℕ) → F after m observed (field_in x 5) q ≡ F s m observed (field_in x 5) q)
    seen_there = holds_same world (heap_of s.store) (heap_of after.store) observed (field_in x 5) watched seen (λ q i. next.near q (omega arith))

    -- with what they reached
    same_behind : (m : Sigil) (q : ℕ) → Behind after m ws q ≡ WasBehind m q
    same_behind m q = omega (arith, array_there.1 m q, seen_there.1 m q)

    -- so all is left
    are_left : AreLeft after a v ws
    are_left = record {
      array = array_there.0;
      given = next.holds;
      seen = seen_there.0;
      fine =
          fine_as after (WasBehind W) (WasBehind R) (Behind after W ws) (Behind after R ws) (reached_fine s w r after (WasBehind W) (WasBehind R) fine next.reached)
          (same_behind W) (λ q. omega (arith, same_behind R q));
    }

    -- what is refined from what is left
    from_left : (o : values.Outcome) (p : Outcome) → IsRefined world after (Behind after W ws) (Behind after R ws) whole o p → IsRefined world after (WasBehind W) (WasBehind R) whole o p
    from_left o p k =
        refined_from world after (Behind after W ws) (Behind after R ws) (WasBehind W) (WasBehind R) whole o p
        (λ q. omega (arith, same_behind W q)) (λ q. omega (arith, same_behind R q)) k

  -- what an iterator calls is refined
  abbrev pub AreCalls : (ℕ → Val → Val → ℕ → values.Outcome) → (List Scalar → State → ℕ → Outcome) → Type 0
  AreCalls turn called =
      (s : State) (i : ℕ) (a y : Val) (us : List Scalar) (left : ℕ) → H s takes (on_scalars.asked lib x i us s.store) (on_values.asked lib watched i a y)
      → IsFine (side_of s (F s W takes (on_scalars.asked lib x i us s.store)) (F s R takes (on_scalars.asked lib x i us s.store)))
      → IsRefined world s (F s W takes (on_scalars.asked lib x i us s.store)) (F s R takes (on_scalars.asked lib x i us s.store)) result
      (turn i a y left) (called (on_scalars.asked lib x i us s.store) s left)

  module _ (turn : ℕ → Val → Val → ℕ → values.Outcome) (called : List Scalar → State → ℕ → Outcome) (Index : ℕ → Type 0) (t : AreTurns Index) (call : AreCalls turn called) where
    -- a call, and then the rest, from what the call leaves
    call_then : (s : State) (i : ℕ) (a y : Val) (us : List Scalar) (left : ℕ) → Index i → AreKept s a y us → (f : Val → ℕ → values.Outcome) (g : List Scalar → State → ℕ → Outcome)
        → ((v : Val) (ws : List Scalar) (after : State) (rest : ℕ) → AreLeft after a v ws → IsRefined world after (Behind after W ws) (Behind after R ws) whole (f v rest) (g ws after rest))
        → IsRefined world s (Between s W us) (Between s R us) whole (values.bind (turn i a y left) f) (bind (called (on_scalars.asked lib x i us s.store) s left) g)
    call_then s i a y us left b k f g onward =
        let d = asked_beside Index t s i a y us k in
        part_then world s (Between s W us) (Between s R us) (F s W takes (on_scalars.asked lib x i us s.store)) (F s R takes (on_scalars.asked lib x i us s.store)) (Rest s W) (Rest s R) result whole
        (turn i a y left) (called (on_scalars.asked lib x i us s.store) s left) f g k.fine d (λ m ws v h inside q e. omega (arith, inside q e, t.reaches s i a y us k.array k.carried k.seen R q))
        (call s i a y us left (t.asks s i a y us b k.array k.carried k.seen)
        (parts_are_fine (heap_of s.store) s.store.top (Between s W us) (Between s R us) (F s W takes (on_scalars.asked lib x i us s.store)) (F s R takes (on_scalars.asked lib x i us s.store)) (Rest s W) (Rest s R) k.fine d.sum d.rest d.seen).0)
        (λ v ws after rest next.
        from_left s (Between s W us) (Between s R us) after a v ws k.fine k.array k.seen next (f v rest) (g ws after rest)
        (onward v ws after rest (are_left s (Between s W us) (Between s R us) after a v ws k.fine k.array k.seen next)))

    -- the turns over these indices are refined
    abbrev Follow : List ℕ → Type 0
    Follow is =
        (s : State) (a y : Val) (us : List Scalar) (left : ℕ) → AreKept s a y us
        → IsRefined world s (Between s W us) (Between s R us) whole (values.turns turn lib is a y left) (turns called lib types x is us s left)

    -- what follows where a turn isn't the last
    more_turns : (is : List ℕ) → Follow is → (s : State) (i : ℕ) (a v : Val) (ws : List Scalar) (left : ℕ) → on_scalars.stops lib x ws ≡ false → AreLeft s a v ws
        → IsRefined world s (Behind s W ws) (Behind s R ws) whole (values.turns turn lib is (on_values.changed lib i a v) (on_values.carried lib v) left)
        (turns called lib types x is (on_scalars.carried lib x ws) (with_store (written lib x i ws s.store) s) left)
    more_turns is follow s i a v ws left e k =
        let next : State = with_store (written lib x i ws s.store) s in
        let on : IsOnward s next ws (on_scalars.carried lib x ws) (on_values.changed lib i a v) (on_values.carried lib v) = t.goes_on s i a v ws e k in
        refined_after world s (Behind s W ws) (Behind s R ws) next (Between next W (on_scalars.carried lib x ws)) (Between next R (on_scalars.carried lib x ws)) whole
        (values.turns turn lib is (on_values.changed lib i a v) (on_values.carried lib v) left) (turns called lib types x is (on_scalars.carried lib x ws) next left) k.fine on.reached
        (follow next (on_values.changed lib i a v) (on_values.carried lib v) (on_scalars.carried lib x ws) left (record {
          array = on.array;
          carried = on.carried;
          seen = on.seen;
          fine = reached_fine s (Behind s W ws) (Behind s R ws) next (Between next W (on_scalars.carried lib x ws)) (Between next R (on_scalars.carried lib x ws)) k.fine on.reached;
        }))

    -- what follows a call
    after_call : (is : List ℕ) → Follow is → (s : State) (i : ℕ) (a v : Val) (ws : List Scalar) (left : ℕ) → AreLeft s a v ws
        → IsRefined world s (Behind s W ws) (Behind s R ws) whole
        (if on_values.stops lib v then values.gives v left else values.turns turn lib is (on_values.changed lib i a v) (on_values.carried lib v) left)
        (where_true (has_array lib types x s.store)
        (if on_scalars.stops lib x ws then gives ws s left else turns called lib types x is (on_scalars.carried lib x ws) (with_store (written lib x i ws s.store) s) left))
    after_call is follow s i a v ws left k =
        same_refined world s (Behind s W ws) (Behind s R ws) whole _ onward _ (ap (λ b. where_true b onward) (t.array s a k.array))
        (at (λ b. IsRefined world s (Behind s W ws) (Behind s R ws) whole (if b then values.gives v left else later) onward) (sym (t.stops s ws v k.given))
        (by_cases (λ b. IsRefined world s (Behind s W ws) (Behind s R ws) whole (if b then values.gives v left else later) (if b then gives ws s left else later_on))
        (on_scalars.stops lib x ws) (λ e. t.stopped s a v ws left e k) (λ e. more_turns is follow s i a v ws left e k)))
      where
        later : values.Outcome
        later = values.turns turn lib is (on_values.changed lib i a v) (on_values.carried lib v) left

        later_on : Outcome
        later_on = turns called lib types x is (on_scalars.carried lib x ws) (with_store (written lib x i ws s.store) s) left

        onward : Outcome
        onward = if on_scalars.stops lib x ws then gives ws s left else later_on

    -- turns are refined
    pub turns_refined : (is : List ℕ) → Each Index is → Follow is
    unfolding values.turns turns
    turns_refined [] b s a y us left k = t.ended s a y us left k
    turns_refined (i ∷ is) b s a y us left k =
        pay_refined world s (Between s W us) (Between s R us) whole left _ _ (λ paid.
        call_then s i a y us paid b.0 k _ _ (λ v ws after rest l. after_call is (turns_refined is b.1) after i a v ws rest l))

  -- ---- an iterator as a whole

  -- functions are represented alike on all heaps
  arrow_held : (h h' : Heap) (a b : Tau) (us : List Scalar) (v : Val) → Holds world h (arrow a b) us v → Holds world h' (arrow a b) us v
  unfolding Holds
  arrow_held h h' a b us v k = k

  module _ (p : Program) (table : Table) (run : Run) (calls : Calls) (call : TurnsRefine p world table run calls) (Index : ℕ → Type 0) (t : AreTurns Index) (first : IsTrue (is_turn takes)) where
    -- what it calls
    abbrev called : List Scalar → State → ℕ → Outcome
    called = calls_source p calls (slice_get p.list (first_number (field_in x 3))) (first_number (field_in x 3))

    abbrev on_turn : ℕ → Val → Val → ℕ → values.Outcome
    on_turn i a y rest = values.call table run (field value 3) (on_values.asked lib watched i a y) rest

    -- its calls are refined
    are_calls : (s : State) → H s (arrow takes result) (field_in x 3) (field value 3) → AreCalls on_turn called
    are_calls s f s' i a y us rest h fine =
        call takes result (field_in x 3) (on_scalars.asked lib x i us s'.store) (field value 3) (on_values.asked lib watched i a y) s' first
        (arrow_held (heap_of s.store) (heap_of s'.store) takes result (field_in x 3) (field value 3) f) h fine rest

    -- an iterator is refined from where its fields are represented
    pub iterated_refined : (s : State) → H s (arrow takes result) (field_in x 3) (field value 3) → on_values.indices lib value ≡ on_scalars.indices lib x s.store
        → Each Index (on_scalars.indices lib x s.store) → AreKept s (field value 0) (field value 4) (field_in x 4) → (w r : ℕ → ℕ) → ((q : ℕ) → Between s W (field_in x 4) q ≡ w q)
        → ((q : ℕ) → Between s R (field_in x 4) q ≡ r q) → (left : ℕ) → IsRefined world s w r whole (values.iterated table run lib value left) (updates.iterated p calls lib types x s left)
    iterated_refined s f e b k w r ew er left =
        refined_from world s (Between s W (field_in x 4)) (Between s R (field_in x 4)) w r whole (values.iterated table run lib value left) (updates.iterated p calls lib types x s left)
        (λ q. sym (ew q)) (λ q. sym (er q))
        (same_refined world s (Between s W (field_in x 4)) (Between s R (field_in x 4)) whole (values.iterated table run lib value left) all _ (ap (λ b. where_true b all) (t.array s (field value 0) k.array))
        (at (λ is. IsRefined world s (Between s W (field_in x 4)) (Between s R (field_in x 4)) whole (values.turns on_turn lib is (field value 0) (field value 4) left) all) (sym e)
        (turns_refined on_turn called Index t (are_calls s f) (on_scalars.indices lib x s.store) b s (field value 0) (field value 4) (field_in x 4) left k)))
      where
        all : Outcome
        all = turns called lib types x (on_scalars.indices lib x s.store) (field_in x 4) s left
