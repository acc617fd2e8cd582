-- Maps, which write what a turn gives into the array.
use Rattle.std.proofs.Common.{◌≡◌, ℕ, ◌+◌, ◌^◌, ◌<◌, ◌≤◌, nat_eq, IsTrue, Some, codes, List, [], ◌∷◌, ◌++◌, refl, sym, subst as at, arith}
use Rattle.std.proofs.lemmas.List.{append-nil}
use Rattle.cg_base.proofs.Counts.{no_steps as never}
use Rattle.cg_base.specs.declared.fun.Lib.TheVariants.{Map}
use Rattle.cg_base.specs.declared.kind.Sigil.{Sigil}
use Rattle.cg_base.specs.declared.kind.Sigil.TheVariants.{R, W}
use Rattle.cg_base.specs.declared.kind.Word.{Word as Width}
use Rattle.cg_base.specs.Types.{Tau, word, Parts, end}
use Rattle.cg_base.specs.Words.{bits}
use Rattle.cg_eval_def.specs.Evaluation as values
use Rattle.cg_heap.specs.Calls.{Does, heap_of}
use Rattle.cg_heap.specs.declared.cell.Cell.TheVariants.{Words}
use Rattle.cg_heap.specs.declared.cell.Scalar.{Scalar}
use Rattle.cg_heap.specs.declared.cell.Scalar.TheVariants.{Address}
use Rattle.cg_heap.specs.Reps.{Heap, HeapWorld, Holds, first_address, first_number, foot, one_if}
use Rattle.cg_heap.specs.Steps.{IsFine}
use Rattle.cg_heap.specs.Stored.{cell_at, changed, with_element}
use Rattle.cg_heap_laws.proofs.Bang.{bang_foot}
use Rattle.cg_heap_laws.proofs.LibraryFunctions.{gives_array}
use Rattle.cg_heap_laws.proofs.Owned.{at_both}
use Rattle.cg_heap_laws.proofs.Same.{holds_same}
use Rattle.cg_heap_laws.proofs.Steps.{parts_are_fine}
use Rattle.cg_kinds.specs.Kinds.{bang}
use Rattle.cg_lib_heap.specs.Library.{kept}
use Rattle.cg_lib_value.specs.Library.{first_type}
use Rattle.cg_refine.proofs.Sequence.{given_now, reached_as, reached_beside}
use Rattle.cg_refine.proofs.Then.{F}
use Rattle.cg_refine_def.specs.Contexts.{Divided}
use Rattle.cg_refine_def.specs.Refined.{IsRefined, Reached, side_of}
use Rattle.cg_refine_laws.proofs.Arrays.{array_argument, array_held, array_of, array_there, asked_foot, asked_held}
use Rattle.cg_refine_laws.proofs.Fields.{pair_foot, pair_held, record_foot}
use Rattle.cg_refine_laws.proofs.Loops.{number_held}
use Rattle.cg_refine_laws.proofs.Turns.{AreKept, AreLeft, AreTurns, Behind, Between, IsOnward}
use Rattle.cg_typing.specs.Library.{pair, turn_of_array, whole}
use Rattle.cg_update.specs.Machines.{type_of_part}
use Rattle.cg_update.specs.Outcomes.{State, gives, with_store}
use Rattle.cg_update.specs.Turns.{Argument, field_in, field_of}
use Rattle.cg_update_laws.proofs.Forms.{place_of_held}
use Rattle.cg_update_laws.proofs.Named.{is_untaken}
use Rattle.cg_value.specs.Fits.{is_array}
use Rattle.cg_value.specs.Forms as forms
use Rattle.cg_value.specs.Forms.{field, number_in}
use Rattle.cg_value.specs.Values.{Val, elements}

-- ---- an element that is written

-- an own array writes its address
own_writes : (h : Heap) (w : Width) (p q : ℕ) → foot h W (array_of w W) (Address p ∷ []) q ≡ one_if (nat_eq p q) + 0
unfolding foot
own_writes h w p q = omega arith

-- and it reads nothing
own_reads : (h : Heap) (w : Width) (row : List Scalar) (q : ℕ) → foot h R (array_of w W) row q ≡ 0
unfolding foot
own_reads h w row q = refl

module _ (world : HeapWorld) (w : Width) (s : State) where
  -- the state with an element of the array written
  abbrev with_new : List Scalar → ℕ → ℕ → State
  with_new row i n = with_store (changed (with_element i n) (first_address row) s.store) s

  abbrev IsFineThere : List Scalar → Type 0
  IsFineThere row = IsFine (side_of s (F s W (array_of w W) row) (F s R (array_of w W) row))

  -- the array is represented with the element, by a step of its own
  record IsElementWritten (row : List Scalar) (a : Val) (i n : ℕ) : Type 0 where
    holds : Holds world (heap_of (with_new row i n).store) (array_of w W) row (forms.with_element a i n)
    reached : Reached s (F s W (array_of w W) row) (F s R (array_of w W) row) (with_new row i n) (F (with_new row i n) W (array_of w W) row) (F (with_new row i n) R (array_of w W) row)

  -- so it is at an address
  written_at : (p i n : ℕ) (ns : List ℕ) → 1 ≤ p → cell_at s.store p ≡ Some (Words ns) → IsTrue (is_array w (elements ns)) → n < 2 ^ bits w → IsFineThere (Address p ∷ [])
      → IsElementWritten (Address p ∷ []) (elements ns) i n
  unfolding forms.with_element
  written_at p i n ns above e all small f =
      let d : Does world s.store (array_of w W) (Address p ∷ []) (kept (Address p ∷ []) (changed (with_element i n) p s.store)) (array_of w W) (forms.with_element (elements ns) i n) =
      gives_array world s.store (array_of w W) (Address p ∷ []) f w p i n ns (own_writes (heap_of s.store) w p) above e all small in
      record {
        holds = d.holds;
        reached = record { made = []; freed = []; all_made = sym (append-nil s.made); all_freed = sym (append-nil s.freed); step = d.step };
      }

  -- and for any array
  element_written : (row : List Scalar) (a : Val) (i n : ℕ) → Holds world (heap_of s.store) (array_of w W) row a → n < 2 ^ bits w → IsFineThere row → IsElementWritten row a i n
  element_written row a i n k small =
      let here = array_held world (heap_of s.store) w W row a k in
      at_both (λ row a. IsFineThere row → IsElementWritten row a i n) row (Address (first_address row) ∷ []) a (elements here.numbers) here.address here.value
      (λ f. written_at (first_address row) i n here.numbers here.above here.cell here.all_words small f)

-- ---- the turns

-- what a turn gives
abbrev given_parts : Width → Tau → Parts
given_parts w c = whole (codes "p1") (word w) (whole (codes "p2") c end)

-- a sum of which the first part is nothing
second_alone : (a b c : ℕ) → a ≡ b + (c + 0) → b ≡ 0 → a ≡ c
second_alone a b c e f = omega arith

module _ (world : HeapWorld) (types : List Tau) (w : Width) (e : first_type types ≡ word w) (c o : Tau) (us : List Scalar) (value : Val) where
  abbrev given : Tau
  given = pair (word w) c

  abbrev all : Tau
  all = pair (array_of w W) c

  abbrev x : Argument
  x = array_argument w W c o given us

  abbrev Left : State → Val → Val → List Scalar → Type 0
  Left s a v ws = AreLeft world Map types x (array_of w W) c (bang o) (turn_of_array (word w) c o) given all value s a v ws

  abbrev Kept : State → Val → Val → List Scalar → Type 0
  Kept s a y ws = AreKept world Map types x (array_of w W) c (bang o) (turn_of_array (word w) c o) given all value s a y ws

  abbrev behind : State → Sigil → List Scalar → ℕ → ℕ
  behind s m ws q = Behind world Map types x (array_of w W) c (bang o) (turn_of_array (word w) c o) given all value s m ws q

  abbrev between : State → Sigil → List Scalar → ℕ → ℕ
  between s m ws q = Between world Map types x (array_of w W) c (bang o) (turn_of_array (word w) c o) given all value s m ws q

  -- what is observed isn't written
  unwritten : (s : State) (q : ℕ) → F s W (bang o) (field_in x 5) q ≡ 0
  unwritten s q = (bang_foot (heap_of s.store) q o (field_in x 5)).0

  -- what a turn gives: an element, and what is handed on
  abbrev element : List Scalar → ℕ
  element ws = first_number (field_of given ws 0)

  abbrev onward : List Scalar → List Scalar
  onward ws = field_of given ws 1

  module _ (s : State) (v : Val) (ws : List Scalar) (k : Holds world (heap_of s.store) given ws v) where
    -- the element is a word
    element_is : (number_in (field v 0) ≡ element ws) × (element ws < 2 ^ bits w)
    unfolding type_of_part is_untaken
    element_is = number_held world (heap_of s.store) w (field_of given ws 0) (field v 0) (place_of_held world (heap_of s.store) 0 (given_parts w c) ws v k refl)

    -- what is handed on holds
    onward_held : Holds world (heap_of s.store) c (onward ws) (field v 1)
    unfolding type_of_part is_untaken
    onward_held = place_of_held world (heap_of s.store) 1 (given_parts w c) ws v k refl

    -- and reaches what was given
    onward_foot : (m : Sigil) (q : ℕ) → F s m given ws q ≡ F s m c (onward ws) q
    unfolding type_of_part foot
    onward_foot m q = second_alone _ _ _ (record_foot world (heap_of s.store) (given_parts w c) ws v k refl m q) refl

  -- the array, beside what was given and what is observed
  module _ (s : State) (i : ℕ) (a v : Val) (ws : List Scalar) (k : Left s a v ws) where
    abbrev beside : Sigil → ℕ → ℕ
    beside m q = F s m given ws q + F s m (bang o) (field_in x 5) q

    abbrev after : State
    after = with_new world w s (field_in x 0) i (element ws)

    -- the array is a part
    own : Divided (behind s W ws) (behind s R ws) (F s W (array_of w W) (field_in x 0)) (F s R (array_of w W) (field_in x 0)) (beside W) (beside R)
    own = record { sum = λ q. omega arith; rest = λ q. omega arith; seen = λ q. omega arith }

    -- the element is written
    written_element : IsElementWritten world w s (field_in x 0) a i (element ws)
    written_element =
        element_written world w s (field_in x 0) a i (element ws) k.array (element_is s v ws k.given).1
        (parts_are_fine (heap_of s.store) s.store.top (behind s W ws) (behind s R ws) (F s W (array_of w W) (field_in x 0)) (F s R (array_of w W) (field_in x 0)) (beside W) (beside R) k.fine
        own.sum own.rest own.seen).0

    abbrev Reaches : Type 0
    Reaches =
        Reached s (behind s W ws) (behind s R ws) after (λ q. F after W (array_of w W) (field_in x 0) q + beside W q) (λ q. F after R (array_of w W) (field_in x 0) q + beside R q)
        × ((q : ℕ) → 1 ≤ beside W q + beside R q → heap_of after.store q ≡ heap_of s.store q)

    -- all is reached by that
    all_reached : Reaches
    all_reached =
        reached_beside s (behind s W ws) (behind s R ws) (F s W (array_of w W) (field_in x 0)) (F s R (array_of w W) (field_in x 0)) (beside W) (beside R) after
        (F after W (array_of w W) (field_in x 0)) (F after R (array_of w W) (field_in x 0)) k.fine own written_element.reached
        (λ q j. absurd (let z = own_reads (heap_of after.store) w (field_in x 0) q in omega arith))

    -- what else is reached is as it was
    onward_there : Holds world (heap_of after.store) c (onward ws) (field v 1) × ((m : Sigil) (q : ℕ) → F after m c (onward ws) q ≡ F s m c (onward ws) q)
    onward_there =
        holds_same world (heap_of s.store) (heap_of after.store) c (onward ws) (field v 1) (onward_held s v ws k.given)
        (λ q j. all_reached.1 q (omega (arith, onward_foot s v ws k.given W q, onward_foot s v ws k.given R q)))

    -- so is what is observed
    seen_there : Holds world (heap_of after.store) (bang o) (field_in x 5) (field value 5) × ((m : Sigil) (q : ℕ) → F after m (bang o) (field_in x 5) q ≡ F s m (bang o) (field_in x 5) q)
    seen_there = holds_same world (heap_of s.store) (heap_of after.store) (bang o) (field_in x 5) (field value 5) k.seen (λ q j. all_reached.1 q (omega arith))

    -- the next turn begins with what is reached
    same_foot : (m : Sigil) (q : ℕ) → between after m (onward ws) q ≡ F after m (array_of w W) (field_in x 0) q + beside m q
    same_foot m q = omega (arith, onward_there.1 m q, seen_there.1 m q, onward_foot s v ws k.given m q)

    -- so a turn goes on
    element_handed_on : IsOnward world Map types x (array_of w W) c (bang o) (turn_of_array (word w) c o) given all value s after ws (onward ws) (forms.with_element a i (number_in (field v 0))) (field v 1)
    element_handed_on = record {
      array =
          at (λ n. Holds world (heap_of after.store) (array_of w W) (field_in x 0) (forms.with_element a i n)) (sym (element_is s v ws k.given).0) written_element.holds;
      carried = onward_there.0;
      seen = seen_there.0;
      reached =
          reached_as s (behind s W ws) (behind s R ws) after (λ q. F after W (array_of w W) (field_in x 0) q + beside W q) (λ q. F after R (array_of w W) (field_in x 0) q + beside R q)
          (between after W (onward ws)) (between after R (onward ws)) all_reached.0 (same_foot W) (λ q j. omega (arith, same_foot R q));
    }

  -- the array is given with what is handed on last
  array_given : (s : State) (a y : Val) (ws : List Scalar) (left : ℕ) → Kept s a y ws
      → IsRefined world s (between s W ws) (between s R ws) all (values.gives (forms.pair a y) left) (gives (field_in x 0 ++ ws) s left)
  array_given s a y ws left k =
      let both : (m : Sigil) (q : ℕ) → F s m all (field_in x 0 ++ ws) q ≡ F s m (array_of w W) (field_in x 0) q + F s m c ws q =
      pair_foot world (heap_of s.store) (array_of w W) c (field_in x 0) ws a y k.array k.carried in
      given_now world s (between s W ws) (between s R ws) all (forms.pair a y) left (field_in x 0 ++ ws) k.fine
      (pair_held world (heap_of s.store) (array_of w W) c (field_in x 0) ws a y k.array k.carried)
      (λ q. omega (arith, both W q, unwritten s q)) (λ q j. omega (arith, both R q))

  -- the turns of a map
  pub map_turns : (Index : ℕ → Type 0) → AreTurns world Map types x (array_of w W) c (bang o) (turn_of_array (word w) c o) given all value Index
  unfolding type_of_part
  map_turns Index = record {
    quiet = unwritten;
    asks = λ s i a y ws b k l n. asked_held world s.store w W (field_in x 0) a k c o ws (field_in x 5) y (field value 5) i l n;
    reaches = λ s i a y ws k l n m q. asked_foot world s.store w W (field_in x 0) a k c o ws (field_in x 5) y (field value 5) i l n m q;
    array = λ s a k. array_there world s.store w W (field_in x 0) a k types e;
    stops = λ s ws v k. refl;
    stopped = λ s a v ws left f k. never f;
    goes_on = λ s i a v ws f k. element_handed_on s i a v ws k;
    ended = array_given;
  }
