-- The functions that take an allocator: New, Free, Create and FreeArray.
use Rattle.std.proofs.Common.{◌≡◌, ℕ, zero, suc, ◌+◌, ◌≤◌, Bool, ◌&&◌, nat_eq, nat_le, Some, List, [], ◌∷◌, length, drop, replicate, refl, sym, ap, ◌∙◌, subst, arith}
use Rattle.std.proofs.lemmas.Bool.{and_parts}
use Rattle.std.proofs.lemmas.List.{length-replicate}
use Rattle.cg_base.specs.declared.fun.Lib.TheVariants.{New, Free, Create, FreeArray}
use Rattle.cg_base.specs.declared.kind.Sigil.TheVariants.{W}
use Rattle.cg_base.specs.declared.kind.Word.{Word}
use Rattle.cg_base.specs.declared.kind.Word.TheVariants.{U32}
use Rattle.cg_base.specs.Types.{Tau, word, fields, Parts, end, part, piece_list}
use Rattle.cg_heap.specs.Calls.{Does, heap_of}
use Rattle.cg_heap.specs.declared.cell.Cell.TheVariants.{Slots, Answers}
use Rattle.cg_heap.specs.declared.cell.Fresh.TheVariants as fresh
use Rattle.cg_heap.specs.declared.cell.Scalar.{Scalar}
use Rattle.cg_heap.specs.declared.cell.Scalar.TheVariants.{Unset, Word as AWord, Address}
use Rattle.cg_heap.specs.Reps.{Heap, HeapWorld, Holds, HoldsAll, slots, slots_of_parts, slots_in, head, address_of, number_of, one_if, foot}
use Rattle.cg_heap.specs.Stored.{Stored, cell_at, changed, without_answer}
use Rattle.cg_heap_laws.proofs.Slots.{holds_slots}
use Rattle.cg_lib_heap.specs.Library.{granted, library_heap, next_at}
use Rattle.cg_heap_laws.proofs.Allocations.{allocates, next_is}
use Rattle.cg_heap_laws.proofs.Arrays.{new_is_array}
use Rattle.cg_heap_laws.proofs.LibraryForms.{state_is, is_an_array, array_is, word_is, record_is, taken_foot}
use Rattle.cg_heap_laws.proofs.LibraryFunctions.{Fine, state_foot, state_slots, array_foot, word_foot, gives_state}
use Rattle.cg_heap_laws.proofs.Tuples.{pair_is, pair_foot}
use Rattle.cg_lib_value.specs.Library.{answered, next_answer, makes_array, new_record, library_value}
use Rattle.cg_typing.specs.Library.{state, array, pair, maybe}
use Rattle.cg_typing.specs.Parts.{all_parts_taken}
use Rattle.cg_value.specs.Fits.{most_elements}
use Rattle.cg_value.specs.Forms as forms
use Rattle.cg_value.specs.Forms.{answers_in, number_in, field}
use Rattle.cg_value.specs.Values.{Val, number, answers, elements, gone, to_vals, val_list}

-- a list of one scalar is that of its first
pub one_scalar : (us : List Scalar) → length us ≡ 1 → us ≡ head us ∷ []
one_scalar [] n = absurd (omega arith)
one_scalar (u ∷ []) n = refl
one_scalar (u ∷ x ∷ us) n = absurd (omega arith)

-- what holds of scalars and a value holds of those that are the same
pub at_both : (P : List Scalar → Val → Type 0) (us us' : List Scalar) (v v' : Val) → us ≡ us' → v ≡ v' → P us' v' → P us v
at_both P us us' v v' e f x = subst (λ us. P us v) (sym e) (subst (λ v. P us' v) (sym f) x)

-- the slots of a new record hold what is gone
drop_replicate : (m n : ℕ) → drop m (replicate (m + n) Unset) ≡ replicate n Unset
drop_replicate zero n = rw (zero_add n)
  where
    zero_add : (n : ℕ) → 0 + n ≡ n
    zero_add n = omega arith
drop_replicate (suc m) n = rw (suc_add m n) (drop_replicate m n)
  where
    suc_add : (m n : ℕ) → suc m + n ≡ suc (m + n)
    suc_add m n = omega arith

module _ (world : HeapWorld) (h : Heap) where
  -- unset slots represent fields that are gone
  new_fields : (ps : Parts) → HoldsAll world h (all_parts_taken ps) (replicate (slots_of_parts ps) Unset) (to_vals (replicate (length (piece_list ps)) gone))
  unfolding Holds slots to_vals piece_list
  new_fields end = refl
  new_fields (part name t taken ps) = (
    omega (arith, length-replicate {A = Scalar} (slots t + slots_of_parts ps) Unset),
    refl,
    subst (λ x. HoldsAll world h (all_parts_taken ps) x (to_vals (replicate (length (piece_list ps)) gone))) (sym (drop_replicate (slots t) (slots_of_parts ps))) (new_fields ps),
  )

  -- a cell of unset slots represents a record of which all fields are gone
  new_holds : (ps : Parts) (a : ℕ) → 1 ≤ a → h a ≡ Some (Slots (replicate (slots_of_parts ps) Unset)) → Holds world h (fields (all_parts_taken ps) W) (Address a ∷ []) (new_record (fields ps W))
  unfolding Holds new_record
  new_holds ps a i e = (
    to_vals (replicate (length (piece_list ps)) gone),
    ((refl, i), e ∙ ap (λ o. Some (Slots (slots_in o))) (sym e)),
    subst (λ o. HoldsAll world h (all_parts_taken ps) (slots_in o) (to_vals (replicate (length (piece_list ps)) gone))) (sym e) (new_fields ps),
    refl,
  )

-- types of one slot
pub record_slot : (ps : Parts) → slots (fields ps W) ≡ 1
unfolding slots
record_slot ps = refl

pub array_slot : (w : Word) → slots (array (word w)) ≡ 1
unfolding slots
array_slot w = refl

pub word_slot : (w : Word) → slots (word w) ≡ 1
unfolding slots
word_slot w = refl

-- two scalars that are the same as two others
pub two_are : (u x u' x' : Scalar) → u ≡ u' → x ≡ x' → (u ∷ x ∷ []) ≡ (u' ∷ x' ∷ [])
two_are u x u' x' e f = ap (λ u. u ∷ x ∷ []) e ∙ ap (λ x. u' ∷ x ∷ []) f

-- a footprint with nothing beside it
plus_zero : (x y : ℕ) → x ≡ y → x ≡ y + 0
plus_zero x y e = omega arith

module _ (world : HeapWorld) (s : Stored) where
  -- an address, where an allocator is represented
  pub one_address : (us : List Scalar) (v : Val) → Holds world (heap_of s) state us v
      → (p : ℕ) × (bs : List Bool) × (us ≡ Address p ∷ []) × (v ≡ answers bs) × (cell_at s p ≡ Some (Answers bs)) × (1 ≤ p)
  one_address us v r =
      let e = one_scalar us (holds_slots world (heap_of s) state us v r ∙ sym state_slots) in
      let x = state_is world (heap_of s) (head us) v (subst (λ us. Holds world (heap_of s) state us v) e r) in
      (address_of (head us), x.1.0, e ∙ ap (λ u. u ∷ []) x.0, x.1.2, x.1.1, x.1.3)

  -- New, at an allocator's address
  new_at : (ps : Parts) (p : ℕ) (bs : List Bool) → 1 ≤ p → cell_at s p ≡ Some (Answers bs) → Fine s state (Address p ∷ [])
      → Does world s state (Address p ∷ []) (granted p (next_at p s) (fresh.Slots (slots_of_parts ps)) (changed without_answer p s)) (pair state (maybe (fields (all_parts_taken ps) W)))
      (answered bs (next_answer bs) (new_record (fields ps W)))
  new_at ps p bs above e f =
      subst (λ b. Does world s state (Address p ∷ []) (granted p b (fresh.Slots (slots_of_parts ps)) (changed without_answer p s)) (pair state (maybe (fields (all_parts_taken ps) W))) (answered bs (next_answer bs) (new_record (fields ps W))))
      (sym (next_is p bs s e))
      (allocates world s state (Address p ∷ []) f (fields (all_parts_taken ps) W) (record_slot (all_parts_taken ps)) p above (λ q. plus_zero _ _ (state_foot (heap_of s) p q).0) bs e (next_answer bs)
      (fresh.Slots (slots_of_parts ps)) (new_record (fields ps W)) (λ k h a j i. (new_holds world h ps a j i, λ q. taken_foot h ps a q)))

  -- New
  pub new_does : (ps : Parts) (args : List Tau) (us : List Scalar) (v : Val) → Holds world (heap_of s) state us v → Fine s state us
      → Does world s state us (library_heap New (fields ps W ∷ args) us s) (pair state (maybe (fields (all_parts_taken ps) W))) (library_value New (fields ps W ∷ args) v)
  unfolding answers_in
  new_does ps args us v r =
      let x = one_address us v r in
      at_both (λ us v. Fine s state us → Does world s state us (library_heap New (fields ps W ∷ args) us s) (pair state (maybe (fields (all_parts_taken ps) W))) (library_value New (fields ps W ∷ args) v))
      us (Address x.0 ∷ []) v (answers x.1) x.2 x.3 (new_at ps x.0 x.1 x.5 x.4)

  -- a pair of an allocator and what is owned
  -- Free and FreeArray, at two addresses
  free_at : (t : Tau) → 1 ≡ slots t → (p q : ℕ) (bs : List Bool) → ((x : ℕ) → foot (heap_of s) W t (Address q ∷ []) x ≡ one_if (nat_eq q x)) → 1 ≤ p → cell_at s p ≡ Some (Answers bs)
      → Fine s (pair state t) (Address p ∷ Address q ∷ []) → Does world s (pair state t) (Address p ∷ Address q ∷ []) (library_heap Free [] (Address p ∷ Address q ∷ []) s) state (answers bs)
  free_at t n p q bs own above e f =
      gives_state world s (pair state t) (Address p ∷ Address q ∷ []) f p q bs
      (λ x. let a = (pair_foot (heap_of s) state t (Address p) (Address q ∷ []) state_slots n x).0 in let b = (state_foot (heap_of s) p x).0 in let c = own x in sums _ _ _ _ _ a b c) above e
    where
      sums : (a b c x y : ℕ) → a ≡ b + c → b ≡ x → c ≡ y → a ≡ y + x
      sums a b c x y e f g = omega arith

  -- Free
  pub free_does : (ps : Parts) (args : List Tau) (us : List Scalar) (v : Val) → Holds world (heap_of s) (pair state (fields (all_parts_taken ps) W)) us v → Fine s (pair state (fields (all_parts_taken ps) W)) us
      → Does world s (pair state (fields (all_parts_taken ps) W)) us (library_heap Free args us s) state (library_value Free args v)
  unfolding field val_list
  free_does ps args us v r =
      let x = pair_is world (heap_of s) state (fields (all_parts_taken ps) W) (sym state_slots) (record_slot (all_parts_taken ps)) us v r in
      let a = state_is world (heap_of s) x.one x.value_one x.holds_one in
      let b = record_is world (heap_of s) (all_parts_taken ps) x.two x.value_two x.holds_two in
      at_both (λ us v. Fine s (pair state (fields (all_parts_taken ps) W)) us → Does world s (pair state (fields (all_parts_taken ps) W)) us (library_heap Free args us s) state (library_value Free args v))
      us (Address (address_of x.one) ∷ Address (address_of x.two) ∷ []) v (forms.pair (answers a.1.0) x.value_two)
      (x.are_scalars ∙ two_are _ _ _ _ a.0 b) (x.is_value ∙ ap (λ v. forms.pair v x.value_two) a.1.2)
      (free_at (fields (all_parts_taken ps) W) (sym (record_slot (all_parts_taken ps))) (address_of x.one) (address_of x.two) a.1.0 (λ q. (taken_foot (heap_of s) ps (address_of x.two) q).0) a.1.3 a.1.1)

  -- FreeArray
  pub free_array_does : (w : Word) (args : List Tau) (us : List Scalar) (v : Val) → Holds world (heap_of s) (pair state (array (word w))) us v → Fine s (pair state (array (word w))) us
      → Does world s (pair state (array (word w))) us (library_heap FreeArray args us s) state (library_value FreeArray args v)
  unfolding field val_list
  free_array_does w args us v r =
      let x = pair_is world (heap_of s) state (array (word w)) (sym state_slots) (array_slot w) us v r in
      let a = state_is world (heap_of s) x.one x.value_one x.holds_one in
      let b = array_is world (heap_of s) w W x.two x.value_two x.holds_two in
      at_both (λ us v. Fine s (pair state (array (word w))) us → Does world s (pair state (array (word w))) us (library_heap FreeArray args us s) state (library_value FreeArray args v))
      us (Address (address_of x.one) ∷ Address (address_of x.two) ∷ []) v (forms.pair (answers a.1.0) x.value_two)
      (x.are_scalars ∙ two_are _ _ _ _ a.0 b.0) (x.is_value ∙ ap (λ v. forms.pair v x.value_two) a.1.2)
      (free_at (array (word w)) (sym (array_slot w)) (address_of x.one) (address_of x.two) a.1.0 (λ q. (array_foot (heap_of s) w (address_of x.two) q).0) a.1.3 a.1.1)

  -- Create, at an allocator's address and a number
  create_at : (w : Word) (p n : ℕ) (bs : List Bool) → 1 ≤ p → cell_at s p ≡ Some (Answers bs) → Fine s (pair state (word U32)) (Address p ∷ AWord n ∷ [])
      → Does world s (pair state (word U32)) (Address p ∷ AWord n ∷ []) (granted p (next_at p s && nat_le n most_elements) (fresh.Words n) (changed without_answer p s)) (pair state (maybe (array (word w))))
      (answered bs (makes_array bs n) (elements (replicate n 0)))
  create_at w p n bs above e f =
      subst (λ b. Does world s (pair state (word U32)) (Address p ∷ AWord n ∷ []) (granted p (b && nat_le n most_elements) (fresh.Words n) (changed without_answer p s)) (pair state (maybe (array (word w))))
      (answered bs (makes_array bs n) (elements (replicate n 0))))
      (sym (next_is p bs s e))
      (allocates world s (pair state (word U32)) (Address p ∷ AWord n ∷ []) f (array (word w)) (array_slot w) p above
      (λ q. let a = (pair_foot (heap_of s) state (word U32) (Address p) (AWord n ∷ []) state_slots (sym (word_slot U32)) q).0 in
      let b = (state_foot (heap_of s) p q).0 in let c = (word_foot (heap_of s) U32 (AWord n ∷ []) q).0 in sums _ _ _ _ a b c)
      bs e (makes_array bs n) (fresh.Words n) (elements (replicate n 0))
      (λ k h a j i. (is_an_array world h w a (replicate n 0) j i (new_is_array w n (and_parts (next_answer bs) (nat_le n most_elements) k).1), λ q. array_foot h w a q)))
    where
      sums : (a b c x : ℕ) → a ≡ b + c → b ≡ x → c ≡ 0 → a ≡ x + 0
      sums a b c x e f g = omega arith

  -- Create
  pub create_does : (w : Word) (args : List Tau) (us : List Scalar) (v : Val) → Holds world (heap_of s) (pair state (word U32)) us v → Fine s (pair state (word U32)) us
      → Does world s (pair state (word U32)) us (library_heap Create args us s) (pair state (maybe (array (word w)))) (library_value Create args v)
  unfolding field val_list answers_in number_in
  create_does w args us v r =
      let x = pair_is world (heap_of s) state (word U32) (sym state_slots) (word_slot U32) us v r in
      let a = state_is world (heap_of s) x.one x.value_one x.holds_one in
      let b = word_is world (heap_of s) U32 x.two x.value_two x.holds_two in
      at_both (λ us v. Fine s (pair state (word U32)) us → Does world s (pair state (word U32)) us (library_heap Create args us s) (pair state (maybe (array (word w)))) (library_value Create args v))
      us (Address (address_of x.one) ∷ AWord (number_of x.two) ∷ []) v (forms.pair (answers a.1.0) (number (number_of x.two)))
      (x.are_scalars ∙ two_are _ _ _ _ a.0 b.0) (x.is_value ∙ ap (λ v. forms.pair v x.value_two) a.1.2 ∙ ap (λ w. forms.pair (answers a.1.0) w) b.2)
      (create_at w (address_of x.one) (number_of x.two) a.1.0 a.1.3 a.1.1)
