-- The array that Length or Get reads is there, where the argument is represented.
use Rattle.std.proofs.Common.{◌≡◌, ℕ, IsTrue, Some, List, [], ◌∷◌, sym, ap, ◌∙◌, subst}
use Rattle.cg_base.specs.declared.fun.Lib.{Lib}
use Rattle.cg_base.specs.declared.fun.Lib.TheVariants.{New, Free, Create, FreeArray, Length, Get, Put}
use Rattle.cg_base.specs.declared.kind.Sigil.TheVariants.{R}
use Rattle.cg_base.specs.declared.kind.Word.{Word}
use Rattle.cg_base.specs.declared.kind.Word.TheVariants.{U32}
use Rattle.cg_base.specs.Types.{Tau, word}
use Rattle.cg_heap.specs.Calls.{heap_of}
use Rattle.cg_heap.specs.declared.cell.Cell.TheVariants.{Words}
use Rattle.cg_heap.specs.declared.cell.Scalar.{Scalar}
use Rattle.cg_heap.specs.Reps.{HeapWorld, Holds, first_address, head}
use Rattle.cg_heap.specs.Stored.{Stored, cell_at}
use Rattle.cg_heap_laws.proofs.Slots.{holds_slots}
use Rattle.cg_kinds.specs.Kinds.{bang}
use Rattle.cg_lib_heap.specs.Library.{HasArray, HasWords, words_in}
use Rattle.cg_heap_laws.specs.LibraryLaws.{ArraysAreThere, is_argument}
use Rattle.cg_heap_laws.proofs.LibraryForms.{array_is}
use Rattle.cg_heap_laws.proofs.LibraryObserved.{seen_array, seen_slot}
use Rattle.cg_heap_laws.proofs.Owned.{one_scalar, word_slot}
use Rattle.cg_heap_laws.proofs.Tuples.{pair_is}
use Rattle.cg_typing.specs.Library.{library_type, pair}
use Rattle.cg_typing.specs.Parts.{taken_by}
use Rattle.cg_value.specs.Values.{Val}

module _ (world : HeapWorld) (s : Stored) where
  -- a cell of elements is an array
  has_words : (p : ℕ) (ns : List ℕ) → cell_at s p ≡ Some (Words ns) → HasWords p s
  has_words p ns e = e ∙ ap (λ ms. Some (Words ms)) (sym (ap words_in e))

  -- the argument of Length
  length_has : (w : Word) (us : List Scalar) (v : Val) → Holds world (heap_of s) (seen_array w) us v → HasWords (first_address us) s
  length_has w us v r =
      let e = one_scalar us (holds_slots world (heap_of s) (seen_array w) us v r ∙ seen_slot w) in
      let x = array_is world (heap_of s) w R (head us) v (subst (λ us. Holds world (heap_of s) (seen_array w) us v) e r) in
      has_words (first_address us) x.1.0 x.1.1

  -- the argument of Get
  get_has : (w : Word) (us : List Scalar) (v : Val) → Holds world (heap_of s) (pair (seen_array w) (word U32)) us v → HasWords (first_address us) s
  get_has w us v r =
      let x = pair_is world (heap_of s) (seen_array w) (word U32) (seen_slot w) (word_slot U32) us v r in
      let a = array_is world (heap_of s) w R x.one x.value_one x.holds_one in
      has_words (first_address us) a.1.0 (ap (λ us. cell_at s (first_address us)) x.are_scalars ∙ a.1.1)

  -- at a first type argument
  by_type : (lib : Lib) (t : Tau) (args : List Tau) (us : List Scalar) (v : Val) → IsTrue (is_argument lib t) → Holds world (heap_of s) (taken_by (library_type lib (t ∷ args))) us v
      → HasArray lib us s
  unfolding bang
  by_type New t args us v k r = tt
  by_type Free t args us v k r = tt
  by_type Create t args us v k r = tt
  by_type FreeArray t args us v k r = tt
  by_type Length (word w) args us v k r = length_has w us v r
  by_type Get (word w) args us v k r = get_has w us v r
  by_type Put t args us v k r = tt
  by_type lib t args us v k r = absurd (cc)

-- the array that a function reads is there
pub arrays_are_there : ArraysAreThere
arrays_are_there world s lib (t ∷ args) us v k r = by_type world s lib t args us v k r
arrays_are_there world s Length [] us v k r = absurd (cc)
arrays_are_there world s Get [] us v k r = absurd (cc)
arrays_are_there world s _ [] us v k r = tt
