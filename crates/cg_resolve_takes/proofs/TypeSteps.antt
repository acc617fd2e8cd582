-- Steps over the fields of types.
use Rattle.std.proofs.Common.{◌≡◌, ℕ, Bool, List, Option, Result, Ok, Err, sym, ap, ◌∙◌, subst}
use Rattle.std.specs.Prelude.{⊤, IfOk}
use Rattle.std.specs.Option.{option_map}
use Rattle.cg_base.specs.declared.place.Place.{Place}
use Rattle.cg_resolve_takes.specs.Heads.{chosen}
use Rattle.cg_resolve_takes.specs.Says.{GoesOn, IsChosen, told}
use Rattle.cg_resolve_takes.specs.Views.{test_of}
use Rattle.cg_resolve_takes.specs.declared.head.Fields.{Fields}
use Rattle.cg_resolve_takes.specs.declared.fault.TakeFault.{TakeFault}

-- what comes of a type, behind those before it
module _ (wanted : Option ℕ) (position : ℕ) (before here result : Result (Option Fields) TakeFault) (is : IsChosen wanted position before here result) (ys : List Place) (goes : GoesOn (told before) ys here) where
  pub chosen_goes : (so_far : Result ⊤ TakeFault) (xs : List Place) → GoesOn so_far xs here → GoesOn so_far xs result
  chosen_goes so_far xs all = cases so_far before here result is goes all
    where
      cases : (so_far : Result ⊤ TakeFault) (before here result : Result (Option Fields) TakeFault) → IsChosen wanted position before here result → GoesOn (told before) ys here → GoesOn so_far xs here → GoesOn so_far xs result
      cases so_far before (Err fault) result is goes all = subst (GoesOn so_far xs) (sym is) all
      cases so_far (Err old) (Ok fields) result is goes all = absurd (cc)
      cases so_far (Ok old) (Ok fields) (Err fault) is goes all = absurd is
      cases (Ok done) (Ok old) (Ok fields) (Ok same) is goes all = all
      cases (Err fault) (Ok old) (Ok fields) (Ok same) is goes all = absurd (cc)

  pub chosen_fields : (s t : Option (List ℕ → Bool)) → IfOk before (λ fields. option_map test_of fields ≡ s) → IfOk here (λ fields. option_map test_of fields ≡ t)
      → IfOk result (λ fields. option_map test_of fields ≡ chosen wanted position s t)
  chosen_fields s t = cases before here result is goes
    where
      cases : (before here result : Result (Option Fields) TakeFault) → IsChosen wanted position before here result → GoesOn (told before) ys here → IfOk before (λ fields. option_map test_of fields ≡ s) → IfOk here (λ fields. option_map test_of fields ≡ t)
          → IfOk result (λ fields. option_map test_of fields ≡ chosen wanted position s t)
      cases before (Err fault) result is goes old_is is_here = subst (λ r. IfOk r (λ fields. option_map test_of fields ≡ chosen wanted position s t)) (sym is) tt
      cases (Err old) (Ok fields) result is goes old_is is_here = absurd (cc)
      cases (Ok old) (Ok fields) (Err fault) is goes old_is is_here = tt
      cases (Ok old) (Ok fields) (Ok same) is goes old_is is_here = is ∙ ap (λ a. chosen wanted position a (option_map test_of fields)) old_is ∙ ap (chosen wanted position s) is_here
