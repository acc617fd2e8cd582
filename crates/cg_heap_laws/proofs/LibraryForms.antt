-- What represents the library's types: allocators, words, arrays, taken records, and None or Some.
use Rattle.std.proofs.Common.{◌≡◌, ℕ, ◌<◌, ◌≤◌, ◌^◌, Bool, nat_eq, IsTrue, Option, Some, None, List, [], ◌∷◌, codes, drop, refl, sym, ap, subst, arith}
use Rattle.cg_base.specs.declared.kind.Sigil.{Sigil}
use Rattle.cg_base.specs.declared.kind.Sigil.TheVariants.{R, W}
use Rattle.cg_base.specs.declared.kind.Word.{Word}
use Rattle.cg_base.specs.Types.{Tau, word, abs, fields, Parts, end, part}
use Rattle.cg_base.specs.Types as types
use Rattle.cg_base.specs.Words.{bits}
use Rattle.cg_heap.specs.declared.cell.Cell.{Cell}
use Rattle.cg_heap.specs.declared.cell.Cell.TheVariants.{Slots, Words, Answers}
use Rattle.cg_heap.specs.declared.cell.Scalar.{Scalar}
use Rattle.cg_heap.specs.declared.cell.Scalar.TheVariants.{Unset, Word as AWord, Address}
use Rattle.cg_heap.specs.Reps.{Heap, HeapWorld, Holds, StandsFor, slots, slots_in, address_of, number_of, one_if, foot, foot_all}
use Rattle.cg_typing.specs.Library.{state, array, maybe}
use Rattle.cg_typing.specs.Parts.{all_parts_taken}
use Rattle.cg_heap_laws.proofs.Slots.{holds_slots}
use Rattle.cg_heap_laws.proofs.LibraryParts.{take_front}
use Rattle.cg_value.specs.Fits.{is_array}
use Rattle.cg_value.specs.Values.{Val, number, nothing, chosen, elements, answers}

module _ (world : HeapWorld) where
  -- what a cell of an allocator stands for
  state_cell : (o : Option Cell) (v : Val) → StandsFor world (codes "SysState") types.none o v → (bs : List Bool) × (o ≡ Some (Answers bs)) × (v ≡ answers bs)
  state_cell (Some (Answers bs)) v r = (bs, refl, r.1)
  state_cell (Some (Words ns)) v r = absurd (cc)
  state_cell (Some (Slots ss)) v r = absurd r
  state_cell None v r = absurd r

  -- what a cell of an array stands for
  array_cell : (w : Word) (o : Option Cell) (v : Val) → StandsFor world (codes "WordArray") (types.more (word w) types.none) o v
      → (ns : List ℕ) × (o ≡ Some (Words ns)) × (v ≡ elements ns) × IsTrue (is_array w (elements ns))
  array_cell w (Some (Words ns)) v r = (ns, refl, r.1, r.0)
  array_cell w (Some (Answers bs)) v r = absurd r
  array_cell w (Some (Slots ss)) v r = absurd r
  array_cell w None v r = absurd r

  module _ (h : Heap) where
    -- an allocator
    pub state_is : (u : Scalar) (v : Val) → Holds world h state (u ∷ []) v → (u ≡ Address (address_of u)) × ((bs : List Bool) × (h (address_of u) ≡ Some (Answers bs)) × (v ≡ answers bs) × (1 ≤ address_of u))
    unfolding Holds
    state_is (Address p) v r = let c = state_cell (h p) v r.2 in (refl, (c.0, c.1, c.2, r.1.1))
    state_is (AWord n) v r = absurd (let e = r.1.0 in cc)
    state_is Unset v r = absurd (let e = r.1.0 in cc)

    pub is_state : (p : ℕ) (bs : List Bool) → 1 ≤ p → h p ≡ Some (Answers bs) → Holds world h state (Address p ∷ []) (answers bs)
    unfolding Holds
    is_state p bs i e = (refl, (refl, i), subst (λ o. StandsFor world (codes "SysState") types.none o (answers bs)) (sym e) (refl, refl))

    -- an array, at any sigil that is boxed
    pub array_is : (w : Word) (s : Sigil) (u : Scalar) (v : Val) → Holds world h (abs (codes "WordArray") (types.more (word w) types.none) s) (u ∷ []) v
        → (u ≡ Address (address_of u)) × ((ns : List ℕ) × (h (address_of u) ≡ Some (Words ns)) × (v ≡ elements ns) × IsTrue (is_array w (elements ns)) × (1 ≤ address_of u))
    unfolding Holds
    array_is w s (Address p) v r = let c = array_cell w (h p) v r.2 in (refl, (c.0, c.1, c.2, c.3, r.1.1))
    array_is w s (AWord n) v r = absurd (let e = r.1.0 in cc)
    array_is w s Unset v r = absurd (let e = r.1.0 in cc)

    pub is_an_array : (w : Word) (p : ℕ) (ns : List ℕ) → 1 ≤ p → h p ≡ Some (Words ns) → IsTrue (is_array w (elements ns)) → Holds world h (array (word w)) (Address p ∷ []) (elements ns)
    unfolding Holds
    is_an_array w p ns i e k = (refl, (refl, i), subst (λ o. StandsFor world (codes "WordArray") (types.more (word w) types.none) o (elements ns)) (sym e) (k, refl))

    -- a word
    pub word_is : (w : Word) (u : Scalar) (v : Val) → Holds world h (word w) (u ∷ []) v → (u ≡ AWord (number_of u)) × (number_of u < 2 ^ bits w) × (v ≡ number (number_of u))
    unfolding Holds
    word_is w (AWord n) v r = (refl, r.1, r.2)
    word_is w (Address n) v r = absurd (let e = r.0 in cc)
    word_is w Unset v r = absurd (let e = r.0 in cc)

    pub is_a_word : (w : Word) (n : ℕ) → n < 2 ^ bits w → Holds world h (word w) (AWord n ∷ []) (number n)
    unfolding Holds
    is_a_word w n k = (refl, k, refl)

    -- a record that can be written is an address
    pub record_is : (ps : Parts) (u : Scalar) (v : Val) → Holds world h (fields ps W) (u ∷ []) v → u ≡ Address (address_of u)
    unfolding Holds
    record_is ps (Address p) v r = refl
    record_is ps (AWord n) v r = absurd (let e = r.1.0.0 in cc)
    record_is ps Unset v r = absurd (let e = r.1.0.0 in cc)

    -- some of what is there
    pub is_some : (t : Tau) (p : ℕ) (v : Val) → Holds world h t (Address p ∷ []) v → Holds world h (maybe t) (AWord 1 ∷ Unset ∷ Address p ∷ []) (chosen (codes "Some") v)
    unfolding Holds slots
    is_some t p v r =
        let n : 1 ≡ slots t = holds_slots world h t (Address p ∷ []) v r in
        (codes "Some", v, refl, omega arith, (refl, refl, subst (λ x. Holds world h t x v) (sym (take_front (slots t) (Address p ∷ []) [] n)) r), refl)

    -- and nothing
    pub is_none : (t : Tau) → slots t ≡ 1 → Holds world h (maybe t) (AWord 0 ∷ AWord 0 ∷ Unset ∷ []) (chosen (codes "None") nothing)
    unfolding Holds slots
    is_none t n = (codes "None", nothing, refl, omega arith, (refl, refl, (refl, refl)), refl)

-- what is reached
module _ (h : Heap) where
  -- some of what is there reaches what that reaches, nothing reaches nothing
  pub some_foot : (m : Sigil) (t : Tau) (p q : ℕ) → 1 ≡ slots t → foot h m (maybe t) (AWord 1 ∷ Unset ∷ Address p ∷ []) q ≡ foot h m t (Address p ∷ []) q
  unfolding foot slots
  some_foot m t p q n = ap (λ x. foot h m t x q) (take_front (slots t) (Address p ∷ []) [] n)

  pub none_foot : (m : Sigil) (t : Tau) (q : ℕ) → foot h m (maybe t) (AWord 0 ∷ AWord 0 ∷ Unset ∷ []) q ≡ 0
  unfolding foot slots
  none_foot m t q = refl

  -- fields that are all taken reach nothing, and their record writes its address
  pub taken_foot_all : (m : Sigil) (ps : Parts) (us : List Scalar) (q : ℕ) → foot_all h m (all_parts_taken ps) us q ≡ 0
  unfolding foot
  taken_foot_all m end us q = refl
  taken_foot_all m (part name t taken ps) us q = taken_foot_all m ps (drop (slots t) us) q

  pub taken_foot : (ps : Parts) (p q : ℕ) → (foot h W (fields (all_parts_taken ps) W) (Address p ∷ []) q ≡ one_if (nat_eq p q)) × (foot h R (fields (all_parts_taken ps) W) (Address p ∷ []) q ≡ 0)
  unfolding foot
  taken_foot ps p q =
      let a = taken_foot_all W ps (slots_in (h p)) q in
      let b = taken_foot_all R ps (slots_in (h p)) q in
      (omega arith, omega arith)
