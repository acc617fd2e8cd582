-- Iterators over an array: what the array is, what they are asked, and where they begin.
use Rattle.std.proofs.Common.{◌≡◌, ℕ, ◌+◌, ◌^◌, ◌<◌, ◌≤◌, true, nat_le, nat_lt, IsTrue, Some, codes, List, [], ◌∷◌, ◌++◌, get_or, length, min, refl, sym, ap, ◌∙◌, subst as at, arith, lt-ltb}
use Rattle.std.proofs.lemmas.Bool.{and_from, and_parts}
use Rattle.std.proofs.lemmas.List.{append-nil}
use Rattle.std.specs.List.{list_all}
use Rattle.cg_base.specs.declared.fun.Lib.{Lib}
use Rattle.cg_base.specs.declared.kind.Sigil.{Sigil}
use Rattle.cg_base.specs.declared.kind.Sigil.TheVariants.{R, W, U}
use Rattle.cg_base.specs.declared.kind.Word.{Word as Width}
use Rattle.cg_base.specs.declared.kind.Word.TheVariants.{U32}
use Rattle.cg_base.specs.Types as types
use Rattle.cg_base.specs.Types.{Tau, word, arrow, abs, fields, Parts, end}
use Rattle.cg_base.specs.Words.{bits}
use Rattle.cg_eval_def.specs.Evaluation as values
use Rattle.cg_eval_def.specs.Evaluation.{Run, Table}
use Rattle.cg_eval_laws.proofs.Turns.{Each, indices_below}
use Rattle.cg_eval_operations.specs.Iterators as on_values
use Rattle.cg_eval_operations.specs.Iterators.{indices_from}
use Rattle.cg_heap.specs.Calls.{heap_of}
use Rattle.cg_heap.specs.declared.cell.Cell.TheVariants.{Words}
use Rattle.cg_heap.specs.declared.cell.Scalar.{Scalar}
use Rattle.cg_heap.specs.declared.cell.Scalar.TheVariants.{Word, Address}
use Rattle.cg_heap.specs.Reps.{Heap, HeapWorld, Holds, HoldsAll, first_address, first_number, foot, foot_all}
use Rattle.cg_heap.specs.Steps.{IsFine}
use Rattle.cg_heap.specs.Stored.{Stored, cell_at}
use Rattle.cg_heap_laws.proofs.Arrays.{element_is_word, length_is_word}
use Rattle.cg_heap_laws.proofs.LibraryForms.{array_is}
use Rattle.cg_kinds.specs.Kinds.{bang}
use Rattle.cg_lib_heap.specs.Library.{words_at, words_in}
use Rattle.cg_lib_value.specs.Library.{first_type}
use Rattle.cg_refine.proofs.Records.{front_foot, unboxed_foot}
use Rattle.cg_refine.proofs.Sequence.{fine_as}
use Rattle.cg_refine.proofs.Then.{F}
use Rattle.cg_refine_def.specs.Refined.{IsRefined, side_of}
use Rattle.cg_refine_laws.proofs.Fields.{record_foot}
use Rattle.cg_refine_laws.proofs.Loops.{number_held, word_held}
use Rattle.cg_refine_laws.proofs.Turns.{AreKept, AreTurns, Between, iterated_refined}
use Rattle.cg_refine_laws.specs.Laws.{TurnsRefine}
use Rattle.cg_typing.specs.Library.{turn_of_array, whole}
use Rattle.cg_update.specs.Calls.{Program, are_words}
use Rattle.cg_update.specs.Machines.{type_of_part}
use Rattle.cg_update.specs.Outcomes.{State}
use Rattle.cg_update.specs.Turns as on_scalars
use Rattle.cg_update.specs.Turns.{Argument, array_in, elements_now, field_in}
use Rattle.cg_update.specs.Updates as updates
use Rattle.cg_update.specs.Updates.{Calls}
use Rattle.cg_update_laws.proofs.Forms.{place_of_held}
use Rattle.cg_update_laws.proofs.Named.{front_held, is_untaken}
use Rattle.cg_value.specs.Fits.{is_array, most_elements}
use Rattle.cg_value.specs.Forms.{elements_in, field, number_in}
use Rattle.cg_value.specs.Values as vals
use Rattle.cg_value.specs.Values.{Val, elements, number, parts, to_vals}

-- ---- an array

-- an array of words, at a sigil
abbrev pub array_of : Width → Sigil → Tau
array_of w sigil = abs (codes "WordArray") (types.more (word w) types.none) sigil

module _ (world : HeapWorld) (h : Heap) where
  -- an array of words, and its cell
  pub record IsArrayOf (w : Width) (us : List Scalar) (v : Val) : Type 0 where
    pub numbers : List ℕ
    pub address : us ≡ Address (first_address us) ∷ []
    pub cell : h (first_address us) ≡ Some (Words numbers)
    pub value : v ≡ elements numbers
    pub all_words : IsTrue (is_array w (elements numbers))
    pub above : 1 ≤ first_address us

  -- what represents an array
  pub array_held : (w : Width) (sigil : Sigil) (us : List Scalar) (v : Val) → Holds world h (array_of w sigil) us v → IsArrayOf w us v
  unfolding Holds
  array_held w sigil us v k =
      let a = array_is world h w sigil (Address (first_address us)) v (at (λ us. Holds world h (array_of w sigil) us v) k.1.0 k) in
      record { numbers = a.1.0; address = k.1.0; cell = a.1.1; value = a.1.2; all_words = a.1.3; above = k.1.1 }

  -- ---- what is asked

  abbrev seen_alone : Tau → Parts
  seen_alone o = whole (codes "obsv") (bang o) end

  abbrev carried_seen : Tau → Tau → Parts
  carried_seen c o = whole (codes "acc") c (seen_alone o)

  abbrev turn_parts : Width → Tau → Tau → Parts
  turn_parts w c o = whole (codes "elem") (word w) (carried_seen c o)

  -- no more fields reach anything, nor does a word
  no_more : (m : Sigil) (q n : ℕ) → n + foot_all h m end [] q ≡ n + 0
  unfolding foot
  no_more m q n = refl

  no_element : (w : Width) (us : List Scalar) (m : Sigil) (q n : ℕ) → foot h m (word w) us q + n ≡ 0 + n
  unfolding foot
  no_element w us m q n = refl

  -- so all is what the two others reach
  three_sum : (a b c d e f : ℕ) → a ≡ b → b ≡ 0 + c → c ≡ d + e → e ≡ f + 0 → a ≡ d + f
  three_sum a b c d e f i j k l = omega arith

  module _ (w : Width) (c o : Tau) (n : ℕ) (us ws : List Scalar) (v seen : Val) (b : n < 2 ^ bits w) (k : Holds world h c us v) (l : Holds world h (bang o) ws seen) where
    -- an element, what is handed on, and what is observed
    element_asked : Holds world h (turn_of_array (word w) c o) (Word n ∷ us ++ ws) (parts (to_vals (number n ∷ v ∷ seen ∷ [])))
    unfolding Holds to_vals
    element_asked = (
      _,
      tt {0},
      front_held world h (codes "elem") (word w) (carried_seen c o) (Word n ∷ []) (us ++ ws) (number n) (to_vals (v ∷ seen ∷ [])) (word_held world h w n b)
          (front_held world h (codes "acc") c (seen_alone o) us ws v (to_vals (seen ∷ [])) k
          (at (λ z. HoldsAll world h (seen_alone o) z (to_vals (seen ∷ []))) (append-nil ws) (front_held world h (codes "obsv") (bang o) end ws [] seen vals.none l refl))),
      refl,
    )

    -- they reach what is handed on, and what is observed
    element_foot : (m : Sigil) (q : ℕ) → foot h m (turn_of_array (word w) c o) (Word n ∷ us ++ ws) q ≡ foot h m c us q + foot h m (bang o) ws q
    element_foot m q =
        three_sum _ _ _ _ _ _ (unboxed_foot world h (turn_parts w c o) (Word n ∷ us ++ ws) m q)
        (front_foot world h (codes "elem") (word w) (carried_seen c o) (Word n ∷ []) (us ++ ws) (number n) (word_held world h w n b) m q
        ∙ no_element w (Word n ∷ []) m q (foot_all h m (carried_seen c o) (us ++ ws) q))
        (front_foot world h (codes "acc") c (seen_alone o) us ws v k m q)
        (ap (λ z. foot_all h m (seen_alone o) z q) (sym (append-nil ws)) ∙ front_foot world h (codes "obsv") (bang o) end ws [] seen l m q ∙ no_more m q (foot h m (bang o) ws q))

-- ---- an array in a store
module _ (world : HeapWorld) (s : Stored) (w : Width) (sigil : Sigil) (row : List Scalar) (a : Val) (k : Holds world (heap_of s) (array_of w sigil) row a) where
  abbrev IsHere : Type 0
  IsHere = IsArrayOf world (heap_of s) w row a

  -- it is one
  here : IsHere
  here = array_held world (heap_of s) w sigil row a k

  -- its elements are those of the value
  pub same_elements : words_at (first_address row) s ≡ elements_in a
  unfolding elements_in
  same_elements = ap words_in here.cell ∙ sym (ap elements_in here.value)

  -- each is a word
  pub small_element : (i : ℕ) → get_or (words_at (first_address row) s) i 0 < 2 ^ bits w
  small_element i = at (λ ns. get_or ns i 0 < 2 ^ bits w) (sym (ap words_in here.cell)) (element_is_word w here.numbers i here.all_words)

  -- an array's cell is one of words
  words_there : (ns : List ℕ) → IsTrue (is_array w (elements ns)) → are_words (word w) (Some (Words ns)) ≡ true
  words_there ns e =
      and_from (nat_lt (length ns) (2 ^ 32)) (list_all (λ n. nat_lt n (2 ^ bits w)) ns) (lt-ltb (length ns) (2 ^ 32) (length_is_word w ns e))
      (and_parts (nat_le (length ns) most_elements) (list_all (λ n. nat_lt n (2 ^ bits w)) ns) e).1

  -- so the array is there
  pub array_there : (types : List Tau) → first_type types ≡ word w → are_words (first_type types) (cell_at s (first_address row)) ≡ true
  array_there types e = ap (λ t. are_words t (cell_at s (first_address row))) e ∙ ap (are_words (word w)) here.cell ∙ words_there here.numbers here.all_words

  -- what is asked of its elements
  module _ (c o : Tau) (us ws : List Scalar) (v seen : Val) (i : ℕ) (l : Holds world (heap_of s) c us v) (n : Holds world (heap_of s) (bang o) ws seen) where
    pub asked_held : Holds world (heap_of s) (turn_of_array (word w) c o) (Word (get_or (words_at (first_address row) s) i 0) ∷ us ++ ws)
        (parts (to_vals (number (get_or (elements_in a) i 0) ∷ v ∷ seen ∷ [])))
    asked_held =
        at (λ ns. Holds world (heap_of s) (turn_of_array (word w) c o) (Word (get_or (words_at (first_address row) s) i 0) ∷ us ++ ws) (parts (to_vals (number (get_or ns i 0) ∷ v ∷ seen ∷ [])))) same_elements
        (element_asked world (heap_of s) w c o (get_or (words_at (first_address row) s) i 0) us ws v seen (small_element i) l n)

    -- and what that reaches
    pub asked_foot : (m : Sigil) (q : ℕ) → foot (heap_of s) m (turn_of_array (word w) c o) (Word (get_or (words_at (first_address row) s) i 0) ∷ us ++ ws) q
        ≡ foot (heap_of s) m c us q + foot (heap_of s) m (bang o) ws q
    asked_foot m q = element_foot world (heap_of s) w c o (get_or (words_at (first_address row) s) i 0) us ws v seen (small_element i) l n m q

-- ---- the argument

-- the argument of an iterator over an array
abbrev pub array_parts : Tau → Tau → Tau → Tau → Parts
array_parts t f c o =
    whole (codes "arr") t (whole (codes "frm") (word U32) (whole (codes "to") (word U32) (whole (codes "f") f (whole (codes "acc") c (whole (codes "obsv") (bang o) end)))))

abbrev pub array_argument : Width → Sigil → Tau → Tau → Tau → List Scalar → Argument
array_argument w sigil c o result us = record { ty = fields (array_parts (array_of w sigil) (arrow (turn_of_array (word w) c o) result) c o) U; scalars = us }

-- words and functions reach nothing
only_three : (z a b c f x y : ℕ) → z ≡ a + (b + (c + (f + (x + (y + 0))))) → b ≡ 0 → c ≡ 0 → f ≡ 0 → x + (a + y) ≡ z
only_three z a b c f x y e i j k = omega arith

module _ (world : HeapWorld) (lib : Lib) (types : List Tau) (w : Width) (sigil : Sigil) (c o result all : Tau) (us : List Scalar) (value : Val) (s : State) where
  abbrev x : Argument
  x = array_argument w sigil c o result us

  abbrev row : Parts
  row = array_parts (array_of w sigil) (arrow (turn_of_array (word w) c o) result) c o

  abbrev between : Sigil → ℕ → ℕ
  between m q = Between world lib types x (array_of w sigil) c (bang o) (turn_of_array (word w) c o) result all value s m (field_in x 4) q

  module _ (k : Holds world (heap_of s.store) (fields row U) us value) where
    -- the argument reaches what its fields do
    argument_foot : (m : Sigil) (q : ℕ) → between m q ≡ F s m (fields row U) us q
    unfolding type_of_part foot
    argument_foot m q = only_three _ _ _ _ _ _ _ (record_foot world (heap_of s.store) row us value k refl m q) refl refl refl

    -- the array comes first
    array_first : Holds world (heap_of s.store) (array_of w sigil) (field_in x 0) (field value 0)
    unfolding type_of_part is_untaken
    array_first = place_of_held world (heap_of s.store) 0 row us value k refl

    -- it begins with its argument
    array_begins : IsFine (side_of s (F s W (fields row U) us) (F s R (fields row U) us))
        → AreKept world lib types x (array_of w sigil) c (bang o) (turn_of_array (word w) c o) result all value s (field value 0) (field value 4) (field_in x 4)
    unfolding type_of_part is_untaken
    array_begins f = record {
      array = array_first;
      carried = place_of_held world (heap_of s.store) 4 row us value k refl;
      seen = place_of_held world (heap_of s.store) 5 row us value k refl;
      fine = fine_as s (F s W (fields row U) us) (F s R (fields row U) us) (between W) (between R) f (argument_foot W) (λ q. omega (arith, argument_foot R q));
    }

    -- its indices are those of the bounds, and of the array
    from_is : number_in (field value 1) ≡ first_number (field_in x 1)
    unfolding type_of_part is_untaken
    from_is = (number_held world (heap_of s.store) U32 _ _ (place_of_held world (heap_of s.store) 1 row us value k refl)).0

    to_is : number_in (field value 2) ≡ first_number (field_in x 2)
    unfolding type_of_part is_untaken
    to_is = (number_held world (heap_of s.store) U32 _ _ (place_of_held world (heap_of s.store) 2 row us value k refl)).0

    -- they are the same on both sides
    same_indices : indices_from (number_in (field value 1)) (min (number_in (field value 2)) (length (elements_in (field value 0)))) 1
        ≡ indices_from (first_number (field_in x 1)) (min (first_number (field_in x 2)) (length (elements_now x s.store))) 1
    same_indices =
        ap (λ n. indices_from n (min (number_in (field value 2)) (length (elements_in (field value 0)))) 1) from_is
        ∙ ap (λ n. indices_from (first_number (field_in x 1)) (min n (length (elements_in (field value 0)))) 1) to_is
        ∙ ap (λ ns. indices_from (first_number (field_in x 1)) (min (first_number (field_in x 2)) (length ns)) 1) (sym (same_elements world s.store w sigil (field_in x 0) (field value 0) array_first))

    -- it is refined where its turns are as said, at all indices
    pub over_array_refined : (p : Program) (table : Table) (run : Run) (calls : Calls) → TurnsRefine p world table run calls
        → ((Index : ℕ → Type 0) → AreTurns world lib types x (array_of w sigil) c (bang o) (turn_of_array (word w) c o) result all value Index)
        → on_values.indices lib value ≡ indices_from (number_in (field value 1)) (min (number_in (field value 2)) (length (elements_in (field value 0)))) 1
        → on_scalars.indices lib x s.store ≡ indices_from (first_number (field_in x 1)) (min (first_number (field_in x 2)) (length (elements_now x s.store))) 1
        → IsFine (side_of s (F s W (fields row U) us) (F s R (fields row U) us)) → (left : ℕ)
        → IsRefined world s (F s W (fields row U) us) (F s R (fields row U) us) all (values.iterated table run lib value left) (updates.iterated p calls lib types x s left)
    unfolding type_of_part is_untaken
    over_array_refined p table run calls call t ev es f left =
        let Index : ℕ → Type 0 = λ i. i < min (first_number (field_in x 2)) (length (elements_now x s.store)) in
        iterated_refined world lib types x (array_of w sigil) c (bang o) (turn_of_array (word w) c o) result all value p table run calls call Index (t Index) refl s
        (place_of_held world (heap_of s.store) 3 row us value k refl) (ev ∙ same_indices ∙ sym es)
        (at (Each Index) (sym es) (indices_below (first_number (field_in x 1)) (min (first_number (field_in x 2)) (length (elements_now x s.store))) 1))
        (array_begins f) (F s W (fields row U) us) (F s R (fields row U) us) (argument_foot W) (argument_foot R) left
