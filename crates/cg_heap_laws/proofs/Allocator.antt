-- Each cell that is made takes an answer.
use Rattle.std.proofs.Common.{◌≡◌, ℕ, zero, suc, ◌+◌, ◌≤◌, Bool, true, false, ◌&&◌, nat_le, IsTrue, Some, List, [], ◌∷◌, get_or, length, replicate, refl, sym, ap, ◌∙◌, subst, arith}
use Rattle.std.proofs.lemmas.Bool.{and_parts}
use Rattle.cg_base.specs.declared.fun.Lib.{Lib}
use Rattle.cg_base.specs.declared.fun.Lib.TheVariants.{New, Free, Create, FreeArray, Length, Get, Put}
use Rattle.cg_base.specs.declared.kind.Sigil.TheVariants.{W}
use Rattle.cg_base.specs.declared.kind.Word.TheVariants.{U32}
use Rattle.cg_base.specs.Types as types
use Rattle.cg_base.specs.Types.{Tau, Parts, word, piece_list}
use Rattle.cg_heap.specs.Calls.{heap_of}
use Rattle.cg_heap.specs.declared.cell.Cell.TheVariants.{Answers}
use Rattle.cg_heap.specs.declared.cell.Fresh.{Fresh}
use Rattle.cg_heap.specs.declared.cell.Scalar.{Scalar}
use Rattle.cg_heap.specs.declared.cell.Scalar.TheVariants.{Word as AWord, Address}
use Rattle.cg_heap.specs.ForeignHeaps.{answers_left, answers_in_parts}
use Rattle.cg_heap.specs.Reps.{HeapWorld, Holds, one_if, address_of, number_of, slots}
use Rattle.cg_heap.specs.Stored.{Stored, cell_at}
use Rattle.cg_lib_heap.specs.Library.{granted, library_heap, next_at}
use Rattle.cg_heap_laws.specs.LibraryLaws.{AnswersSuffice, is_written}
use Rattle.cg_heap_laws.proofs.Allocations.{next_is}
use Rattle.cg_heap_laws.proofs.LibraryForms.{state_is, word_is}
use Rattle.cg_heap_laws.proofs.LibraryFunctions.{state_slots}
use Rattle.cg_heap_laws.proofs.Owned.{one_address, at_both, two_are, word_slot}
use Rattle.cg_heap_laws.proofs.Tuples.{pair_is}
use Rattle.cg_lib_value.specs.Library.{answered, next_answer, later_answers, library_value, new_record}
use Rattle.cg_typing.specs.Library.{array, given, library_type, maybe, pair, state}
use Rattle.cg_typing.specs.Parts.{all_parts_taken, all_taken, given_by, taken_by}
use Rattle.cg_value.specs.Fits.{most_elements}
use Rattle.cg_value.specs.Forms as forms
use Rattle.cg_value.specs.Forms.{answers_in, elements_in, field, number_in}
use Rattle.cg_value.specs.Values.{Val, answers, gone, number, to_vals, val_list}

-- what is granted is one cell or none
granted_made : (b : Bool) (p : ℕ) (c : Fresh) (s : Stored) → length (granted p b c s).made ≡ one_if b
granted_made true p c s = refl
granted_made false p c s = refl

-- what is granted takes an answer
takes_one : (bs : List Bool) (b : Bool) → (b ≡ true → next_answer bs ≡ true) → one_if b + length (later_answers bs) ≤ length bs
unfolding next_answer later_answers
takes_one [] true k = absurd (let e = k refl in cc)
takes_one [] false k = omega arith
takes_one (x ∷ bs) true k = omega arith
takes_one (x ∷ bs) false k = omega arith

-- what is granted and the answers behind it are at most the answers before
made_at : (s s' : Stored) (p : ℕ) (bs : List Bool) (c : Fresh) (b : Bool) → (b ≡ true → next_at p s ≡ true) → cell_at s p ≡ Some (Answers bs)
    → length (granted p b c s').made + length (later_answers bs) ≤ length bs
made_at s s' p bs c b k e = let x = granted_made b p c s' in let y = takes_one bs b (λ i. sym (next_is p bs s e) ∙ k i) in omega arith

-- ---- how many answers are left in values of the library's types

-- what is gone has none, nor has a number
gone_left : (t : Tau) → answers_left t gone ≡ 0
unfolding answers_left
gone_left (types.var i) = refl
gone_left (types.seen i) = refl
gone_left (word w) = refl
gone_left types.bool = refl
gone_left types.unit = refl
gone_left (types.arrow a b) = refl
gone_left (types.abs name types.none sigil) = refl
gone_left (types.abs name (types.more t ts) sigil) = refl
gone_left (types.variant ps) = refl
gone_left (types.fields ps sigil) = refl

number_left : (t : Tau) (n : ℕ) → answers_left t (number n) ≡ 0
unfolding answers_left
number_left (types.var i) n = refl
number_left (types.seen i) n = refl
number_left (word w) n = refl
number_left types.bool n = refl
number_left types.unit n = refl
number_left (types.arrow a b) n = refl
number_left (types.abs name types.none sigil) n = refl
number_left (types.abs name (types.more t ts) sigil) n = refl
number_left (types.variant ps) n = refl
number_left (types.fields ps sigil) n = refl

-- nor has a new record
all_gone_left : (ps : Parts) (n : ℕ) → answers_in_parts (all_parts_taken ps) (to_vals (replicate n gone)) ≡ 0
unfolding answers_left to_vals
all_gone_left types.end zero = refl
all_gone_left types.end (suc n) = refl
all_gone_left (types.part name t taken ps) zero = refl
all_gone_left (types.part name t taken ps) (suc n) = let x = gone_left t in let y = all_gone_left ps n in omega arith

record_left : (t : Tau) → IsTrue (is_written t) → answers_left (all_taken t) (new_record t) ≡ 0
unfolding answers_left new_record
record_left (types.fields ps W) k = all_gone_left ps (length (piece_list ps))
record_left _ k = absurd (cc)

-- nor has an array
array_left : (t : Tau) (v : Val) → answers_left (array t) v ≡ 0
unfolding answers_left
array_left t v = refl

-- a pair has what its two parts have
pair_left : (a b : Tau) (v w : Val) → answers_left (pair a b) (forms.pair v w) ≡ answers_left a v + answers_left b w
unfolding answers_left
pair_left a b v w = omega arith

-- an allocator, alone and beside a number, has all its answers
state_left : (bs : List Bool) → answers_left state (answers bs) ≡ length bs
unfolding answers_left
state_left bs = refl

asked_left : (bs : List Bool) (n : ℕ) → answers_left (pair state (word U32)) (forms.pair (answers bs) (number n)) ≡ length bs
asked_left bs n = let x = pair_left state (word U32) (answers bs) (number n) in let y = state_left bs in let z = number_left (word U32) n in omega arith

-- what is granted and the answers behind it, in what New and Create give, are at most the answers before
granted_left : (made before : ℕ) (bs : List Bool) (b : Bool) (m : Val) (t : Tau) → answers_left t m ≡ 0 → before ≡ length bs
    → made + length (later_answers bs) ≤ length bs → made + answers_left (pair state (maybe t)) (answered bs b m) ≤ before
unfolding answers_left
granted_left made before bs true m t none all few =
    let e : answers_left (pair state (maybe t)) (answered bs true m) ≡ length (later_answers bs) + (answers_left t m + 0) = refl in
    omega arith
granted_left made before bs false m t none all few =
    let e : answers_left (pair state (maybe t)) (answered bs false m) ≡ length (later_answers bs) + 0 = refl in
    omega arith

module _ (world : HeapWorld) (s : Stored) where
  -- what a function makes, and what is left in its result, of answers that were left in its argument
  abbrev Suffice : Lib → List Tau → List Scalar → Val → Type 0
  Suffice lib args us v =
      length (library_heap lib args us s).made + answers_left (given_by (library_type lib args)) (library_value lib args v)
      ≤ answers_left (taken_by (library_type lib args)) v

  -- New, and Create
  new_made : (args : List Tau) (us : List Scalar) (v : Val) → IsTrue (is_written (given args 0)) → Holds world (heap_of s) state us v → Suffice New args us v
  unfolding field val_list answers_in
  new_made args us v k r =
      let x = one_address world s us v r in
      at_both (Suffice New args) us (Address x.0 ∷ []) v (answers x.1) x.2 x.3
      (granted_left _ _ x.1 _ _ (all_taken (given args 0)) (record_left (given args 0) k) (state_left x.1) (made_at s _ x.0 x.1 _ (next_at x.0 s) (λ k. k) x.4))

  create_made : (args : List Tau) (us : List Scalar) (v : Val) → Holds world (heap_of s) (pair state (word U32)) us v → Suffice Create args us v
  unfolding field val_list answers_in number_in
  create_made args us v r =
      let x = pair_is world (heap_of s) state (word U32) (sym state_slots) (word_slot U32) us v r in
      let a = state_is world (heap_of s) x.one x.value_one x.holds_one in
      let b = word_is world (heap_of s) U32 x.two x.value_two x.holds_two in
      at_both (Suffice Create args) us (Address (address_of x.one) ∷ AWord (number_of x.two) ∷ []) v (forms.pair (answers a.1.0) (number (number_of x.two)))
      (x.are_scalars ∙ two_are _ _ _ _ a.0 b.0) (x.is_value ∙ ap (λ v. forms.pair v x.value_two) a.1.2 ∙ ap (λ w. forms.pair (answers a.1.0) w) b.2)
      (granted_left _ _ a.1.0 _ _ (array (given args 0)) (array_left (given args 0) _) (asked_left a.1.0 (number_of x.two))
      (made_at s _ (address_of x.one) a.1.0 _ (next_at (address_of x.one) s && nat_le (number_of x.two) most_elements)
      (λ k. (and_parts (next_at (address_of x.one) s) (nat_le (number_of x.two) most_elements) k).0) a.1.1))

  -- Free, and FreeArray: the allocator is what stands first in a pair
  first_left : (t : Tau) (us : List Scalar) (v : Val) → slots t ≡ 1 → Holds world (heap_of s) (pair state t) us v → answers_left state (field v 0) ≤ answers_left (pair state t) v
  unfolding field val_list
  first_left t us v n r =
      let x = pair_is world (heap_of s) state t (sym state_slots) n us v r in
      let y = pair_left state t x.value_one x.value_two in
      subst (λ v. answers_left state (field v 0) ≤ answers_left (pair state t) v) (sym x.is_value) (omega arith)

  written_slots : (t : Tau) → IsTrue (is_written t) → slots (all_taken t) ≡ 1
  unfolding slots
  written_slots (types.fields ps W) k = refl
  written_slots _ k = absurd (cc)

-- each function that takes no function
pub answers_suffice : AnswersSuffice
unfolding slots answers_left
answers_suffice world s New args us v k r = new_made world s args us v k r
answers_suffice world s Create args us v k r = create_made world s args us v r
answers_suffice world s Free args us v k r = let x = first_left world s (all_taken (given args 0)) us v (written_slots world s (given args 0) k) r in omega arith
answers_suffice world s FreeArray args us v k r = let x = first_left world s (array (given args 0)) us v refl r in omega arith
answers_suffice world s Length args us v k r = omega arith
answers_suffice world s Get args us v k r = let x = number_left (given args 0) (get_or (elements_in (field v 0)) (number_in (field v 1)) 0) in omega arith
answers_suffice world s Put args us v k r = omega arith
answers_suffice world s _ args us v k r = absurd (cc)
