-- Each function of the library, by cases.
use Rattle.std.proofs.Common.{IsTrue, List, [], ◌∷◌}
use Rattle.cg_base.specs.declared.fun.Lib.{Lib}
use Rattle.cg_base.specs.declared.fun.Lib.TheVariants.{New, Free, Create, FreeArray, Length, Get, Put}
use Rattle.cg_base.specs.declared.kind.Sigil.TheVariants.{W}
use Rattle.cg_base.specs.Types.{Tau, word, fields}
use Rattle.cg_heap.specs.Calls.{Does, heap_of}
use Rattle.cg_heap.specs.declared.cell.Scalar.{Scalar}
use Rattle.cg_heap.specs.Reps.{HeapWorld, Holds}
use Rattle.cg_heap.specs.Stored.{Stored}
use Rattle.cg_kinds.specs.Kinds.{bang}
use Rattle.cg_lib_heap.specs.Library.{library_heap}
use Rattle.cg_heap_laws.specs.LibraryLaws.{LibraryDoes, is_argument}
use Rattle.cg_heap_laws.proofs.LibraryFunctions.{Fine}
use Rattle.cg_heap_laws.proofs.LibraryObserved.{length_does, get_does, put_does}
use Rattle.cg_heap_laws.proofs.Owned.{new_does, free_does, create_does, free_array_does}
use Rattle.cg_lib_value.specs.Library.{library_value}
use Rattle.cg_typing.specs.Library.{library_type}
use Rattle.cg_typing.specs.Parts.{taken_by, given_by}
use Rattle.cg_value.specs.Values.{Val}

module _ (world : HeapWorld) (s : Stored) where
  -- at a first type argument
  by_type : (lib : Lib) (t : Tau) (args : List Tau) (us : List Scalar) (v : Val) → IsTrue (is_argument lib t) → Holds world (heap_of s) (taken_by (library_type lib (t ∷ args))) us v
      → Fine s (taken_by (library_type lib (t ∷ args))) us
      → Does world s (taken_by (library_type lib (t ∷ args))) us (library_heap lib (t ∷ args) us s) (given_by (library_type lib (t ∷ args))) (library_value lib (t ∷ args) v)
  unfolding bang
  by_type New (fields ps W) args us v k r f = new_does world s ps args us v r f
  by_type Free (fields ps W) args us v k r f = free_does world s ps (fields ps W ∷ args) us v r f
  by_type Create (word w) args us v k r f = create_does world s w (word w ∷ args) us v r f
  by_type FreeArray (word w) args us v k r f = free_array_does world s w (word w ∷ args) us v r f
  by_type Length (word w) args us v k r f = length_does world s w (word w ∷ args) us v r f
  by_type Get (word w) args us v k r f = get_does world s w (word w ∷ args) us v r f
  by_type Put (word w) args us v k r f = put_does world s w (word w ∷ args) us v r f
  by_type lib t args us v k r f = absurd (cc)

-- each function that takes no function
pub library_meets : LibraryDoes
library_meets world s lib (t ∷ args) us v k r f = by_type world s lib t args us v k r f
library_meets world s New [] us v k r f = absurd (cc)
library_meets world s Free [] us v k r f = absurd (cc)
library_meets world s Create [] us v k r f = absurd (cc)
library_meets world s FreeArray [] us v k r f = absurd (cc)
library_meets world s Length [] us v k r f = absurd (cc)
library_meets world s Get [] us v k r f = absurd (cc)
library_meets world s Put [] us v k r f = absurd (cc)
library_meets world s _ [] us v k r f = absurd (cc)
