-- The functions on an array that is there: Length, Get and Put.
use Rattle.std.proofs.Common.{◌≡◌, ℕ, ◌+◌, ◌<◌, ◌≤◌, ◌^◌, IsTrue, Some, List, [], ◌∷◌, codes, length, get_or, refl, sym, ap, ◌∙◌, subst, arith}
use Rattle.std.specs.Prelude.{slice_set}
use Rattle.cg_base.specs.declared.fun.Lib.TheVariants.{Length, Get, Put}
use Rattle.cg_base.specs.declared.kind.Sigil.TheVariants.{R, W}
use Rattle.cg_base.specs.declared.kind.Word.{Word}
use Rattle.cg_base.specs.declared.kind.Word.TheVariants.{U32}
use Rattle.cg_base.specs.Types.{Tau, word, abs}
use Rattle.cg_base.specs.Types as types
use Rattle.cg_base.specs.Words.{bits}
use Rattle.cg_heap.specs.Calls.{Does, heap_of}
use Rattle.cg_heap.specs.declared.cell.Cell.TheVariants.{Words}
use Rattle.cg_heap.specs.declared.cell.Scalar.{Scalar}
use Rattle.cg_heap.specs.declared.cell.Scalar.TheVariants.{Word as AWord, Address}
use Rattle.cg_heap.specs.Reps.{Heap, HeapWorld, Holds, slots, head, address_of, number_of, foot}
use Rattle.cg_heap.specs.Stored.{Stored, cell_at, changed, with_element}
use Rattle.cg_heap_laws.proofs.Slots.{holds_slots}
use Rattle.cg_lib_heap.specs.Library.{kept, library_heap, words_at, words_in}
use Rattle.cg_heap_laws.proofs.Arrays.{length_is_word, element_is_word}
use Rattle.cg_heap_laws.proofs.LibraryForms.{array_is, word_is}
use Rattle.cg_heap_laws.proofs.LibraryFunctions.{Fine, array_foot, word_foot, gives_word, gives_array}
use Rattle.cg_heap_laws.proofs.Owned.{one_scalar, at_both, two_are, array_slot, word_slot}
use Rattle.cg_heap_laws.proofs.Tuples.{pair_is, pair_foot, triple_is, triple_foot}
use Rattle.cg_lib_value.specs.Library.{library_value}
use Rattle.cg_typing.specs.Library.{array, pair, triple}
use Rattle.cg_value.specs.Fits.{is_array}
use Rattle.cg_value.specs.Forms as forms
use Rattle.cg_value.specs.Forms.{number_in, elements_in, field}
use Rattle.cg_value.specs.Values as values
use Rattle.cg_value.specs.Values.{Val, number, elements, parts, val_list}

-- an array of words that is only read
abbrev pub seen_array : Word → Tau
seen_array w = abs (codes "WordArray") (types.more (word w) types.none) R

-- it has one slot, and writes nothing
pub seen_slot : (w : Word) → slots (seen_array w) ≡ 1
unfolding slots
seen_slot w = refl

seen_foot : (h : Heap) (w : Word) (us : List Scalar) (q : ℕ) → foot h W (seen_array w) us q ≡ 0
unfolding foot
seen_foot h w us q = refl

-- three that are the same as three others
three_scalars : (u x y u' x' y' : Scalar) → u ≡ u' → x ≡ x' → y ≡ y' → (u ∷ x ∷ y ∷ []) ≡ (u' ∷ x' ∷ y' ∷ [])
three_scalars u x y u' x' y' a b c = cc

three_values : (u x y u' x' y' : Val) → u ≡ u' → x ≡ x' → y ≡ y'
    → parts (values.more u (values.more x (values.more y values.none))) ≡ parts (values.more u' (values.more x' (values.more y' values.none)))
three_values u x y u' x' y' a b c = cc

module _ (world : HeapWorld) (s : Stored) where
  -- Length, at an array's address
  length_at : (w : Word) (p : ℕ) (ns : List ℕ) → cell_at s p ≡ Some (Words ns) → IsTrue (is_array w (elements ns)) → Fine s (seen_array w) (Address p ∷ [])
      → Does world s (seen_array w) (Address p ∷ []) (kept (AWord (length (words_at p s)) ∷ []) s) (word U32) (number (length ns))
  length_at w p ns e a f =
      subst (λ ms. Does world s (seen_array w) (Address p ∷ []) (kept (AWord (length ms) ∷ []) s) (word U32) (number (length ns))) (sym (ap words_in e))
      (gives_word world s (seen_array w) (Address p ∷ []) f U32 (length ns) (length_is_word w ns a) (λ q. seen_foot (heap_of s) w (Address p ∷ []) q))

  -- Length
  pub length_does : (w : Word) (args : List Tau) (us : List Scalar) (v : Val) → Holds world (heap_of s) (seen_array w) us v → Fine s (seen_array w) us
      → Does world s (seen_array w) us (library_heap Length args us s) (word U32) (library_value Length args v)
  unfolding elements_in
  length_does w args us v r =
      let e = one_scalar us (holds_slots world (heap_of s) (seen_array w) us v r ∙ seen_slot w) in
      let x = array_is world (heap_of s) w R (head us) v (subst (λ us. Holds world (heap_of s) (seen_array w) us v) e r) in
      at_both (λ us v. Fine s (seen_array w) us → Does world s (seen_array w) us (library_heap Length args us s) (word U32) (library_value Length args v))
      us (Address (address_of (head us)) ∷ []) v (elements x.1.0) (e ∙ ap (λ u. u ∷ []) x.0) x.1.2 (length_at w (address_of (head us)) x.1.0 x.1.1 x.1.3)

  -- Get, at an array's address and a number
  get_at : (w : Word) (p i : ℕ) (ns : List ℕ) → cell_at s p ≡ Some (Words ns) → IsTrue (is_array w (elements ns)) → Fine s (pair (seen_array w) (word U32)) (Address p ∷ AWord i ∷ [])
      → Does world s (pair (seen_array w) (word U32)) (Address p ∷ AWord i ∷ []) (kept (AWord (get_or (words_at p s) i 0) ∷ []) s) (word w) (number (get_or ns i 0))
  get_at w p i ns e a f =
      subst (λ ms. Does world s (pair (seen_array w) (word U32)) (Address p ∷ AWord i ∷ []) (kept (AWord (get_or ms i 0) ∷ []) s) (word w) (number (get_or ns i 0))) (sym (ap words_in e))
      (gives_word world s (pair (seen_array w) (word U32)) (Address p ∷ AWord i ∷ []) f w (get_or ns i 0) (element_is_word w ns i a)
      (λ q. let b = (pair_foot (heap_of s) (seen_array w) (word U32) (Address p) (AWord i ∷ []) (sym (seen_slot w)) (sym (word_slot U32)) q).0 in
      let c = seen_foot (heap_of s) w (Address p ∷ []) q in let d = (word_foot (heap_of s) U32 (AWord i ∷ []) q).0 in sums _ _ _ b c d))
    where
      sums : (a b c : ℕ) → a ≡ b + c → b ≡ 0 → c ≡ 0 → a ≡ 0
      sums a b c e f g = omega arith

  -- Get
  pub get_does : (w : Word) (args : List Tau) (us : List Scalar) (v : Val) → Holds world (heap_of s) (pair (seen_array w) (word U32)) us v → Fine s (pair (seen_array w) (word U32)) us
      → Does world s (pair (seen_array w) (word U32)) us (library_heap Get args us s) (word w) (library_value Get args v)
  unfolding field val_list elements_in number_in
  get_does w args us v r =
      let x = pair_is world (heap_of s) (seen_array w) (word U32) (seen_slot w) (word_slot U32) us v r in
      let a = array_is world (heap_of s) w R x.one x.value_one x.holds_one in
      let b = word_is world (heap_of s) U32 x.two x.value_two x.holds_two in
      at_both (λ us v. Fine s (pair (seen_array w) (word U32)) us → Does world s (pair (seen_array w) (word U32)) us (library_heap Get args us s) (word w) (library_value Get args v))
      us (Address (address_of x.one) ∷ AWord (number_of x.two) ∷ []) v (forms.pair (elements a.1.0) (number (number_of x.two)))
      (x.are_scalars ∙ two_are _ _ _ _ a.0 b.0) (x.is_value ∙ ap (λ v. forms.pair v x.value_two) a.1.2 ∙ ap (λ w. forms.pair (elements a.1.0) w) b.2)
      (get_at w (address_of x.one) (number_of x.two) a.1.0 a.1.1 a.1.3)

  -- Put, at an array's address and two numbers
  put_at : (w : Word) (p i n : ℕ) (ns : List ℕ) → 1 ≤ p → cell_at s p ≡ Some (Words ns) → IsTrue (is_array w (elements ns)) → n < 2 ^ bits w
      → Fine s (triple (array (word w)) (word U32) (word w)) (Address p ∷ AWord i ∷ AWord n ∷ [])
      → Does world s (triple (array (word w)) (word U32) (word w)) (Address p ∷ AWord i ∷ AWord n ∷ []) (kept (Address p ∷ []) (changed (with_element i n) p s)) (array (word w)) (elements (slice_set ns i n))
  put_at w p i n ns above e a k f =
      gives_array world s (triple (array (word w)) (word U32) (word w)) (Address p ∷ AWord i ∷ AWord n ∷ []) f w p i n ns
      (λ q. let x = triple_foot (heap_of s) (array (word w)) (word U32) (word w) (Address p) (AWord i) (AWord n) (sym (array_slot w)) (sym (word_slot U32)) (sym (word_slot w)) q in
      let b = (array_foot (heap_of s) w p q).0 in let c = (word_foot (heap_of s) U32 (AWord i ∷ []) q).0 in let d = (word_foot (heap_of s) w (AWord n ∷ []) q).0 in sums _ _ _ _ _ x b c d)
      above e a k
    where
      sums : (a b c d x : ℕ) → a ≡ b + c + d → b ≡ x → c ≡ 0 → d ≡ 0 → a ≡ x + 0
      sums a b c d x e f g i = omega arith

  -- Put
  pub put_does : (w : Word) (args : List Tau) (us : List Scalar) (v : Val) → Holds world (heap_of s) (triple (array (word w)) (word U32) (word w)) us v → Fine s (triple (array (word w)) (word U32) (word w)) us
      → Does world s (triple (array (word w)) (word U32) (word w)) us (library_heap Put args us s) (array (word w)) (library_value Put args v)
  unfolding field val_list number_in forms.with_element
  put_does w args us v r =
      let x = triple_is world (heap_of s) (array (word w)) (word U32) (word w) (array_slot w) (word_slot U32) (word_slot w) us v r in
      let a = array_is world (heap_of s) w W x.one x.value_one x.holds_one in
      let b = word_is world (heap_of s) U32 x.two x.value_two x.holds_two in
      let c = word_is world (heap_of s) w x.three x.value_three x.holds_three in
      at_both (λ us v. Fine s (triple (array (word w)) (word U32) (word w)) us → Does world s (triple (array (word w)) (word U32) (word w)) us (library_heap Put args us s) (array (word w)) (library_value Put args v))
      us (Address (address_of x.one) ∷ AWord (number_of x.two) ∷ AWord (number_of x.three) ∷ []) v
      (parts (values.more (elements a.1.0) (values.more (number (number_of x.two)) (values.more (number (number_of x.three)) values.none))))
      (x.are_scalars ∙ three_scalars _ _ _ _ _ _ a.0 b.0 c.0) (x.is_value ∙ three_values _ _ _ _ _ _ a.1.2 b.2 c.2)
      (put_at w (address_of x.one) (number_of x.two) (number_of x.three) a.1.0 a.1.4 a.1.1 a.1.3 c.1)
