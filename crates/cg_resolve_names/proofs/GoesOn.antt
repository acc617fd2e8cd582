-- Searches that go on, one after the other.
use Rattle.std.proofs.Common.{◌≡◌, ℕ, ◌+◌, ◌<◌, List, [], ◌∷◌, ◌++◌, map, length, get_or, take, Result, Ok, Err, refl, sym, ap, ◌∙◌, subst}
use Rattle.std.specs.Prelude.{⊤, OnOk}
use Rattle.cg_resolve_def.specs.Faults.{NameFault}
use Rattle.cg_resolve_names.specs.Says.{GoesOn, Says}
use Rattle.cg_resolve_names.specs.declared.fault.NamingFault.{NamingFault}
use Rattle.cg_resolve_names.proofs.Loops.{so_far, pushed}
use Rattle.cg_resolve_names.proofs.SaysSteps.{says_first, says_second}

-- over no fault
pub goes_none : (so_far : Result ⊤ NamingFault) → GoesOn so_far [] so_far
goes_none (Ok done) = refl
goes_none (Err fault) = refl

-- over the faults of two parts
pub goes_both : (xs ys : List NameFault) (so_far inside result : Result ⊤ NamingFault) → GoesOn so_far xs inside → GoesOn inside ys result → GoesOn so_far (xs ++ ys) result
goes_both xs ys (Err fault) inside result first second = subst (λ r. GoesOn r ys result) first second
goes_both xs ys (Ok done) (Ok more) result first second = says_second xs ys result first second
goes_both xs ys (Ok done) (Err fault) result first second = subst (λ r. Says (xs ++ ys) r) (sym second) (says_first xs ys fault first)

-- over faults that are the same where none was found before
pub goes_same : (inside result : Result ⊤ NamingFault) (xs ys : List NameFault) → OnOk inside (xs ≡ ys) → GoesOn inside xs result → GoesOn inside ys result
goes_same (Ok done) result xs ys same goes = subst (λ l. Says l result) same goes
goes_same (Err fault) result xs ys same goes = goes

-- where none was found in the end, none was found before
pub on_both : (P Q : Type 0) (xs : List NameFault) (inside result : Result ⊤ NamingFault) → GoesOn inside xs result → OnOk inside P → OnOk result Q → OnOk result (P × Q)
on_both P Q xs inside (Err fault) goes p q = tt
on_both P Q xs (Ok done) (Ok more) goes p q = (p, q)
on_both P Q xs (Err fault) (Ok more) goes p q = absurd (cc)

-- over the faults of one item more
module _ {S T X : Type 0} (to : List T → S) (one : S → T → S) (push : (ts : List T) (t : T) → to (ts ++ t ∷ []) ≡ one (to ts) t)
    (F : S → List NameFault) (G : S → T → List NameFault) (step : (s : S) (t : T) → F (one s t) ≡ F s ++ G s t) (view : X → T) (items : List X) (i : ℕ) (x : X) (within : i < length items) (is : x ≡ get_or items i x) where
  pub goes_turn : (before inside result : Result ⊤ NamingFault) → GoesOn before (F (to (map view (take i items)))) inside → GoesOn inside (G (to (map view (take i items))) (view x)) result
      → GoesOn before (F (to (map view (take (i + 1) items)))) result
  goes_turn before inside result first second =
      subst (λ l. GoesOn before l result)
      (sym (ap (λ l. F (to l)) (so_far to one push F G step view items i x within is) ∙ pushed to one push F G step view (map view (take i items)) (view x)))
      (goes_both (F (to (map view (take i items)))) (G (to (map view (take i items))) (view x)) before inside result first second)
