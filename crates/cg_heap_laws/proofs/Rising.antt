-- Type arguments that are good, and how far the highest address rises.
use Rattle.std.proofs.Common.{◌≡◌, ℕ, ◌+◌, Bool, true, false, ◌&&◌, IsTrue, List, [], ◌∷◌, length, refl, arith}
use Rattle.std.proofs.lemmas.Bool.{and_parts}
use Rattle.cg_base.specs.declared.fun.Lib.{Lib}
use Rattle.cg_base.specs.declared.fun.Lib.TheVariants.{New, Free, Create, FreeArray, Length, Get, Put}
use Rattle.cg_base.specs.declared.kind.Kinds.{Kinds}
use Rattle.cg_base.specs.declared.kind.Sigil.TheVariants.{W}
use Rattle.cg_base.specs.Types.{Tau, fields}
use Rattle.cg_heap.specs.declared.cell.Fresh.{Fresh}
use Rattle.cg_heap.specs.Reps.{first_address, number_of}
use Rattle.cg_heap.specs.Stored.{Stored, with_element}
use Rattle.cg_lib_heap.specs.Library.{granted, second, third}
use Rattle.cg_heap_laws.specs.LibraryLaws.{AddressesRise, GoodArgumentsSuffice, is_argument, is_written}
use Rattle.cg_eval_operations.specs.Iterators.{is_iterator}
use Rattle.cg_typing.specs.Functions.{are_good_arguments, asked_by_library, later_asked, meets_asked, next_asked}
use Rattle.cg_typing.specs.Instances.{as_arguments}
use Rattle.cg_typing.specs.Parts.{is_cell, has_word_arrays}
use Rattle.cg_heap.proofs.TopSteps.{top_stays as changed_top}

-- a record to write of which no field is taken is one to write
cell_is_written : (t : Tau) → IsTrue (is_cell t) → IsTrue (is_written t)
cell_is_written (fields ps W) k = refl
cell_is_written _ k = absurd (cc)

-- what is asked of the first type argument is what the laws ask
asked_is_argument : (vars : List Kinds) (lib : Lib) (t : Tau) → is_iterator lib ≡ false → IsTrue (meets_asked vars (next_asked (asked_by_library lib)) t) → IsTrue (is_argument lib t)
asked_is_argument vars New t e k = cell_is_written t k
asked_is_argument vars Free t e k = cell_is_written t k
asked_is_argument vars Create t e k = k
asked_is_argument vars FreeArray t e k = k
asked_is_argument vars Length t e k = k
asked_is_argument vars Get t e k = k
asked_is_argument vars Put t e k = k
asked_is_argument vars _ t e k = absurd (cc)

-- type arguments that typing lets through are what the laws ask
pub good_arguments : GoodArgumentsSuffice
good_arguments functions vars lib (t ∷ types) e n k =
    let a = and_parts (has_word_arrays t) (meets_asked vars (next_asked (asked_by_library lib)) t && are_good_arguments vars (later_asked (asked_by_library lib)) (as_arguments types)) k in
    asked_is_argument vars lib t e (and_parts (meets_asked vars (next_asked (asked_by_library lib)) t) (are_good_arguments vars (later_asked (asked_by_library lib)) (as_arguments types)) a.1).0
good_arguments functions vars New [] e n k = absurd (cc)
good_arguments functions vars Free [] e n k = absurd (cc)
good_arguments functions vars Create [] e n k = absurd (cc)
good_arguments functions vars FreeArray [] e n k = absurd (cc)
good_arguments functions vars Length [] e n k = absurd (cc)
good_arguments functions vars Get [] e n k = absurd (cc)
good_arguments functions vars Put [] e n k = absurd (cc)
good_arguments functions vars _ [] e n k = absurd (cc)

-- what is granted raises it by what is made
granted_top : (b : Bool) (p : ℕ) (c : Fresh) (s s' : Stored) → s'.top ≡ s.top → (granted p b c s').store.top ≡ s.top + length (granted p b c s').made
granted_top true p c s s' e = omega (arith, e)
granted_top false p c s s' e = omega (arith, e)

-- the highest address rises by one for each cell that is made
pub addresses_rise : AddressesRise
addresses_rise s New args us = granted_top _ (first_address us) _ s _ (changed_top _ (first_address us) s)
addresses_rise s Create args us = granted_top _ (first_address us) _ s _ (changed_top _ (first_address us) s)
addresses_rise s Put args us = let e = changed_top (with_element (number_of (second us)) (number_of (third us))) (first_address us) s in omega (arith, e)
addresses_rise s _ args us = omega arith
