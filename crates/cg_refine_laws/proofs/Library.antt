-- The functions of the library that take no function: the cells that they use are there, they cost what they do by the value, and what
-- they give is refined.
use Rattle.std.proofs.Common.{◌≡◌, ℕ, ◌-◌, ◌^◌, Bool, true, false, ◌&&◌, cond, nat_le, nat_lt, IsTrue, Some, List, [], ◌∷◌, length, ◌++◌, if◌then◌else◌, refl, sym, ap, ◌∙◌, subst as at, lt-ltb}
use Rattle.std.specs.List.{list_all}
use Rattle.std.proofs.lemmas.Bool.{and_from, and_parts}
use Rattle.cg_base.specs.declared.fun.Lib.{Lib}
use Rattle.cg_base.specs.declared.fun.Lib.TheVariants.{New, Free, Create, FreeArray, Length, Get, Put}
use Rattle.cg_base.specs.declared.kind.Sigil.TheVariants.{R, W}
use Rattle.cg_base.specs.declared.kind.Word.{Word}
use Rattle.cg_base.specs.declared.kind.Word.TheVariants.{U32}
use Rattle.cg_base.specs.Types.{Tau, word, fields, Parts}
use Rattle.cg_base.specs.Words.{bits}
use Rattle.cg_eval_def.specs.Evaluation as values
use Rattle.cg_eval_def.specs.Evaluation.{spent}
use Rattle.cg_heap.specs.Calls.{Does, Out, heap_of}
use Rattle.cg_heap.specs.declared.cell.Cell.TheVariants.{Words}
use Rattle.cg_heap.specs.declared.cell.Scalar.{Scalar}
use Rattle.cg_heap.specs.declared.cell.Scalar.TheVariants.{Word as AWord, Address}
use Rattle.cg_heap.specs.Reps.{Heap, HeapWorld, Holds, address_of, first_address, foot, head, number_of}
use Rattle.cg_heap.specs.Stored.{Stored, cell_at}
use Rattle.cg_heap_laws.proofs.Allocations.{next_is}
use Rattle.cg_heap_laws.proofs.Arrays.{length_is_word}
use Rattle.cg_heap_laws.proofs.LibraryForms.{array_is, state_is, word_is}
use Rattle.cg_heap_laws.proofs.LibraryFunctions.{state_slots}
use Rattle.cg_heap_laws.proofs.LibraryObserved.{seen_array, seen_slot}
use Rattle.cg_heap_laws.proofs.LibraryWhole.{library_meets}
use Rattle.cg_heap_laws.proofs.Owned.{array_slot, at_both, one_address, one_scalar, record_slot, two_are, word_slot}
use Rattle.cg_heap_laws.proofs.Slots.{holds_slots}
use Rattle.cg_heap_laws.proofs.Tuples.{pair_is, triple_is}
use Rattle.cg_heap_laws.specs.LibraryLaws.{is_argument}
use Rattle.cg_kinds.specs.Kinds.{bang}
use Rattle.cg_lib_heap.specs.Library.{library_heap, next_at}
use Rattle.cg_lib_value.specs.Library as value
use Rattle.cg_lib_value.specs.Library.{library_value, makes_array}
use Rattle.cg_refine_def.specs.Refined.{IsGiven, IsRefined}
use Rattle.cg_refine_laws.specs.Laws.{LibraryIsRefined}
use Rattle.cg_typing.specs.Library.{array, given as argument, library_type, pair, state, triple}
use Rattle.cg_typing.specs.Parts.{all_parts_taken, given_by, taken_by}
use Rattle.cg_update.specs.Calls.{are_answers, are_slots, are_words, has_cells, library, library_cost}
use Rattle.cg_update.specs.Outcomes.{State, Outcome, given, no_result, pay_for, where_true}
use Rattle.cg_value.specs.Fits.{is_array, most_elements}
use Rattle.cg_value.specs.Forms as forms
use Rattle.cg_value.specs.Forms.{answers_in, field, number_in}
use Rattle.cg_value.specs.Values.{Val, answers, elements, number, val_list}

-- ---- costs, and what is given

module _ (world : HeapWorld) where
  -- so much of both budgets, and then the rest
  pub pay_for_refined : (s : State) (w r : ℕ → ℕ) (t : Tau) (cost cost' left : ℕ) (f : ℕ → values.Outcome) (g : ℕ → Outcome) → cost' ≡ cost
      → ((rest : ℕ) → IsRefined world s w r t (f rest) (g rest)) → IsRefined world s w r t (values.pay_for cost left f) (pay_for cost' left g)
  pay_for_refined s w r t cost cost' left f g e k = at (λ c. IsRefined world s w r t (values.pay_for cost left f) (pay_for c left g)) (sym e) (paid (nat_lt left cost))
    where
      paid : (b : Bool) → IsRefined world s w r t (cond b spent (f (left - cost))) (cond b no_result (g (left - cost)))
      paid true = tt
      paid false = k (left - cost)

  -- what a call does is what is given
  pub does_refined : (s : State) (t t' : Tau) (us : List Scalar) (o : Out) (v : Val) (left : ℕ) → Does world s.store t us o t' v
      → IsGiven world s (foot (heap_of s.store) W t us) (foot (heap_of s.store) R t us) t' v left (given o s left)
  does_refined s t t' us o v left d = record {
    scalars = o.result;
    state = record { store = o.store; made = s.made ++ o.made; freed = s.freed ++ o.freed };
    is = refl;
    holds = d.holds;
    reached = record { made = o.made; freed = o.freed; all_made = refl; all_freed = refl; step = d.step };
  }

-- ---- cells that are used

-- an array of words is short, and each element is a word
words_there : (w : Word) (ns : List ℕ) → IsTrue (is_array w (elements ns)) → are_words (word w) (Some (Words ns)) ≡ true
words_there w ns a = and_from (nat_lt (length ns) (2 ^ 32)) (list_all (λ n. nat_lt n (2 ^ bits w)) ns) (lt-ltb (length ns) (2 ^ 32) (length_is_word w ns a))
    (and_parts (nat_le (length ns) most_elements) (list_all (λ n. nat_lt n (2 ^ bits w)) ns) a).1

-- the slots of a record that can be written are there
slots_there : (world : HeapWorld) (h : Heap) (ps : Parts) (u : Scalar) (v : Val) → Holds world h (fields ps W) (u ∷ []) v → are_slots (h (address_of u)) ≡ true
unfolding Holds
slots_there world h ps u v r = ap are_slots r.1.1

module _ (world : HeapWorld) (m : Stored) where
  -- the cells that a function uses are there, and it costs what it does by the value
  abbrev Uses : Lib → List Tau → List Scalar → Val → Type 0
  Uses lib args us v = (has_cells lib args us m ≡ true) × (library_cost lib us m ≡ value.library_cost lib v)

  -- New uses an allocator
  new_uses : (args : List Tau) (us : List Scalar) (v : Val) → Holds world (heap_of m) state us v → Uses New args us v
  new_uses args us v r =
      let x = one_address world m us v r in
      (ap (λ us. are_answers (cell_at m (first_address us))) x.2 ∙ ap are_answers x.4, refl)

  -- Free uses an allocator and a record
  free_uses : (ps : Parts) (args : List Tau) (us : List Scalar) (v : Val) → Holds world (heap_of m) (pair state (fields ps W)) us v → Uses Free args us v
  free_uses ps args us v r =
      let x = pair_is world (heap_of m) state (fields ps W) (sym state_slots) (record_slot ps) us v r in
      let a = state_is world (heap_of m) x.one x.value_one x.holds_one in (
        ap (λ us. has_cells Free args us m) x.are_scalars
            ∙ and_from (are_answers (cell_at m (address_of x.one))) (are_slots (cell_at m (address_of x.two))) (ap are_answers a.1.1) (slots_there world (heap_of m) ps x.two x.value_two x.holds_two),
        refl,
      )

  -- the cost of Create, at an allocator's address and a number
  create_cost : (p n : ℕ) (bs : List Bool) → next_at p m ≡ value.next_answer bs
      → (if next_at p m && nat_le n most_elements then n else 0) ≡ (if makes_array bs n then n else 0)
  create_cost p n bs e = ap (λ b. if b && nat_le n most_elements then n else 0) e

  -- Create uses an allocator
  create_uses : (args : List Tau) (us : List Scalar) (v : Val) → Holds world (heap_of m) (pair state (word U32)) us v → Uses Create args us v
  unfolding field val_list answers_in number_in
  create_uses args us v r =
      let x = pair_is world (heap_of m) state (word U32) (sym state_slots) (word_slot U32) us v r in
      let a = state_is world (heap_of m) x.one x.value_one x.holds_one in
      let b = word_is world (heap_of m) U32 x.two x.value_two x.holds_two in (
        ap (λ us. has_cells Create args us m) x.are_scalars ∙ ap are_answers a.1.1,
        at_both (λ us v. library_cost Create us m ≡ value.library_cost Create v)
            us (Address (address_of x.one) ∷ AWord (number_of x.two) ∷ []) v (forms.pair (answers a.1.0) (number (number_of x.two)))
            (x.are_scalars ∙ two_are _ _ _ _ a.0 b.0) (x.is_value ∙ ap (λ v. forms.pair v x.value_two) a.1.2 ∙ ap (λ w. forms.pair (answers a.1.0) w) b.2)
            (create_cost (address_of x.one) (number_of x.two) a.1.0 (next_is (address_of x.one) a.1.0 m a.1.1)),
      )

  -- FreeArray uses an allocator and an array
  free_array_uses : (w : Word) (args : List Tau) (us : List Scalar) (v : Val) → Holds world (heap_of m) (pair state (array (word w))) us v → Uses FreeArray (word w ∷ args) us v
  free_array_uses w args us v r =
      let x = pair_is world (heap_of m) state (array (word w)) (sym state_slots) (array_slot w) us v r in
      let a = state_is world (heap_of m) x.one x.value_one x.holds_one in
      let b = array_is world (heap_of m) w W x.two x.value_two x.holds_two in (
        ap (λ us. has_cells FreeArray (word w ∷ args) us m) x.are_scalars
            ∙ and_from (are_answers (cell_at m (address_of x.one))) (are_words (word w) (cell_at m (address_of x.two))) (ap are_answers a.1.1) (ap (are_words (word w)) b.1.1 ∙ words_there w b.1.0 b.1.3),
        refl,
      )

  -- Length uses an array
  length_uses : (w : Word) (args : List Tau) (us : List Scalar) (v : Val) → Holds world (heap_of m) (seen_array w) us v → Uses Length (word w ∷ args) us v
  length_uses w args us v r =
      let e = one_scalar us (holds_slots world (heap_of m) (seen_array w) us v r ∙ seen_slot w) in
      let x = array_is world (heap_of m) w R (head us) v (at (λ us. Holds world (heap_of m) (seen_array w) us v) e r) in
      (ap (are_words (word w)) x.1.1 ∙ words_there w x.1.0 x.1.3, refl)

  -- Get uses an array
  get_uses : (w : Word) (args : List Tau) (us : List Scalar) (v : Val) → Holds world (heap_of m) (pair (seen_array w) (word U32)) us v → Uses Get (word w ∷ args) us v
  get_uses w args us v r =
      let x = pair_is world (heap_of m) (seen_array w) (word U32) (seen_slot w) (word_slot U32) us v r in
      let a = array_is world (heap_of m) w R x.one x.value_one x.holds_one in
      (ap (λ us. has_cells Get (word w ∷ args) us m) x.are_scalars ∙ ap (are_words (word w)) a.1.1 ∙ words_there w a.1.0 a.1.3, refl)

  -- Put uses an array
  put_uses : (w : Word) (args : List Tau) (us : List Scalar) (v : Val) → Holds world (heap_of m) (triple (array (word w)) (word U32) (word w)) us v → Uses Put (word w ∷ args) us v
  put_uses w args us v r =
      let x = triple_is world (heap_of m) (array (word w)) (word U32) (word w) (array_slot w) (word_slot U32) (word_slot w) us v r in
      let a = array_is world (heap_of m) w W x.one x.value_one x.holds_one in
      (ap (λ us. has_cells Put (word w ∷ args) us m) x.are_scalars ∙ ap (are_words (word w)) a.1.1 ∙ words_there w a.1.0 a.1.3, refl)

  -- at a first type argument
  uses_by_type : (lib : Lib) (t : Tau) (args : List Tau) (us : List Scalar) (v : Val) → IsTrue (is_argument lib t) → Holds world (heap_of m) (taken_by (library_type lib (t ∷ args))) us v
      → Uses lib (t ∷ args) us v
  unfolding bang
  uses_by_type New (fields ps W) args us v k r = new_uses (fields ps W ∷ args) us v r
  uses_by_type Free (fields ps W) args us v k r = free_uses (all_parts_taken ps) (fields ps W ∷ args) us v r
  uses_by_type Create (word w) args us v k r = create_uses (word w ∷ args) us v r
  uses_by_type FreeArray (word w) args us v k r = free_array_uses w args us v r
  uses_by_type Length (word w) args us v k r = length_uses w args us v r
  uses_by_type Get (word w) args us v k r = get_uses w args us v r
  uses_by_type Put (word w) args us v k r = put_uses w args us v r
  uses_by_type lib t args us v k r = absurd (cc)

  -- each function that takes no function
  uses : (lib : Lib) (args : List Tau) (us : List Scalar) (v : Val) → IsTrue (is_argument lib (argument args 0)) → Holds world (heap_of m) (taken_by (library_type lib args)) us v
      → Uses lib args us v
  uses lib (t ∷ args) us v k r = uses_by_type lib t args us v k r
  uses New [] us v k r = absurd (cc)
  uses Free [] us v k r = absurd (cc)
  uses Create [] us v k r = absurd (cc)
  uses FreeArray [] us v k r = absurd (cc)
  uses Length [] us v k r = absurd (cc)
  uses Get [] us v k r = absurd (cc)
  uses Put [] us v k r = absurd (cc)
  uses _ [] us v k r = absurd (cc)

-- ---- the law

-- where its cells are there and its cost is the same, a function is refined by what it does
used_refined : (world : HeapWorld) (lib : Lib) (types : List Tau) (s : State) (us : List Scalar) (v : Val) (t t' : Tau) → Uses world s.store lib types us v
    → Does world s.store t us (library_heap lib types us s.store) t' (library_value lib types v)
    → (left : ℕ) → IsRefined world s (foot (heap_of s.store) W t us) (foot (heap_of s.store) R t us) t'
    (values.pay_for (value.library_cost lib v) left (λ rest. values.gives (library_value lib types v) rest)) (library lib types us s left)
used_refined world lib types s us v t t' u d left =
    at (λ b. IsRefined world s (foot (heap_of s.store) W t us) (foot (heap_of s.store) R t us) t'
    (values.pay_for (value.library_cost lib v) left (λ rest. values.gives (library_value lib types v) rest))
    (where_true b (pay_for (library_cost lib us s.store) left (λ rest. given (library_heap lib types us s.store) s rest)))) (sym u.0)
    (pay_for_refined world s (foot (heap_of s.store) W t us) (foot (heap_of s.store) R t us) t' (value.library_cost lib v) (library_cost lib us s.store) left
    (λ rest. values.gives (library_value lib types v) rest) (λ rest. given (library_heap lib types us s.store) s rest) u.1
    (λ rest. does_refined world s t t' us (library_heap lib types us s.store) (library_value lib types v) rest d))

-- the functions of the library that take no function are refined
pub library_is_refined : LibraryIsRefined
library_is_refined world lib types s us v k r f left =
    used_refined world lib types s us v (taken_by (library_type lib types)) (given_by (library_type lib types)) (uses world s.store lib types us v k r) (library_meets world s.store lib types us v k r f) left
