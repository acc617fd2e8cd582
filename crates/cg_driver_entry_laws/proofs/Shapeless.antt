-- Why the law asks for a shape: a signature may be of a variant type without alternatives, which no text spells and which isn't lawful.
use Rattle.std.proofs.Common.{◌≡◌, ℕ, zero, suc, true, List, [], ◌∷◌, length, refl, ap, arith}
use Rattle.std.proofs.lemmas.List.Elements.{All-cons, All-nil}
use Rattle.std.specs.List.{slice_get}
use Rattle.std.specs.Prelude.{Some, codes}
use Rattle.cg_base.specs.declared.place.Place.{Place}
use Rattle.cg_base.specs.Types as kernel
use Rattle.cg_graphs.specs.Circles.{Mentions, NoCircle, Reaches, mentioned, onward}
use Rattle.cg_core.specs.Kernels.{Function}
use Rattle.cg_surface.specs.Programs.{Entry, signature}
use Rattle.cg_surface.specs.Written.{arrow, no_alts, nothing, variant}
use Rattle.cg_resolve_def.specs.Desugar.{NamesStand, WithinLimits, function_of, functions_of}
use Rattle.cg_resolve_def.specs.Mentions.{mentions}
use Rattle.cg_typing.specs.Accepted.{IsAcceptedFunction, IsAcceptedKernel}
use Rattle.cg_typing.specs.Parts.{given_by, taken_by}
use Rattle.cg_driver_entry.specs.Types.{is_first_order as is_entry_type}
use Rattle.cg_driver_entry.specs.Typed.{HasEntryType}

-- the law without a shape
abbrev Shapeless : Type 0
Shapeless = (p : List Entry) → NamesStand p → WithinLimits p → IsAcceptedKernel (functions_of p)
    → (at : ℕ) (f : Function) → slice_get (functions_of p) at ≡ Some f → f.vars ≡ [] → is_entry_type f.ty.ty ≡ true
    → HasEntryType f (taken_by f.ty.ty) (given_by f.ty.ty)

module _ (p : Place) where
  -- an abstract function that takes such a type
  abbrev program : List Entry
  program = signature (record { place = p; name = codes "f" }) [] [] (arrow p (variant p no_alts) (nothing p)) ∷ []

  abbrev taker : Function
  taker = function_of program (record { place = p; name = codes "f" }) [] (arrow p (variant p no_alts) (nothing p))

  none_mentioned : (i j : ℕ) → Mentions ([] ∷ []) i j → ⊥
  none_mentioned zero j m = let none : [] ≡ m.targets = cc in absurd (let lt = m.among.1 in omega (arith, ap length none))
  none_mentioned (suc i) j m = absurd (let no = m.at in cc)

  none_reached : (i j : ℕ) → Reaches ([] ∷ []) i j → ⊥
  none_reached i _ (mentioned j m) = none_mentioned i j m
  none_reached i _ (onward j k r m) = none_mentioned j k m

  no_circle : NoCircle (mentions program)
  no_circle i r = none_reached i i r

  names : NamesStand program
  names = record { names = refl; circles = no_circle; fields = refl }

  accepted : IsAcceptedKernel (functions_of program)
  unfolding kernel.to_parts
  accepted =
      All-cons (IsAcceptedFunction (functions_of program)) taker []
      (record { argument = kernel.variant kernel.end; result = kernel.unit; is_arrow = refl; arrays = refl; typed = tt })
      (All-nil (IsAcceptedFunction (functions_of program)))

  pub shape_needed : Shapeless → ⊥
  unfolding kernel.to_parts
  shape_needed law = (law program names (omega arith, omega arith, omega arith, omega arith) accepted 0 taker refl refl refl).lawful.0
