-- Where a certificate lists derivations of the kernel, no event fails but for the limit on types, and where no type passes that, none.
use Rattle.std.proofs.Common.{ℕ, ◌+◌, Bool, Option, Some, None, List, [], ◌∷◌, refl, sym, ap, subst}
use Rattle.std.specs.List.{flat_map}
use Rattle.cg_cert.specs.Certificates.{nodes_of, functions_of}
use Rattle.cg_core.specs.Derivations.{Derivation}
use Rattle.cg_core.specs.Kernels.{Function, Body}
use Rattle.cg_core.specs.Terms.{Tree, Note}
use Rattle.cg_faults.specs.Events as faults
use Rattle.cg_faults.specs.Events.{nowhere}
use Rattle.cg_certcheck_def.specs.Events.{function_events, maybe_body_events, body_events, size}
use Rattle.cg_typing.specs.Accepted.{kinds_of_vars}
use Rattle.cg_typing.specs.Kept.{IsKeptMaybe, IsKept, AreKept}
use Rattle.cg_typing.specs.Parts.{is_arrow, taken_by, given_by, has_word_arrays}
use Rattle.cg_certcheck_laws.proofs.BodyEvents.{body_complete}
use Rattle.cg_certcheck_laws.proofs.Limits.{LimitsFor, limits_left, limits_right}
use Rattle.cg_certcheck_laws.proofs.Rows.{HoldFor, hold_append}
use Rattle.cg_check_laws.proofs.SameTypes.{and_refl as both_and, name_refl as name_same}

module _ (functions : List Function) (limited : Bool) where
  -- what is kept of a function, by its type
  kept_at : (f : Function) (c : Option (Tree Note)) (d : Option Derivation) → IsKept functions f c d
      → IsKeptMaybe functions (kinds_of_vars f) (taken_by f.ty.ty) (given_by f.ty.ty) f.body c d
  kept_at f c d k =
      subst (λ a. IsKeptMaybe functions (kinds_of_vars f) a (given_by f.ty.ty) f.body c d) (sym (ap taken_by k.is_arrow))
      (subst (λ r. IsKeptMaybe functions (kinds_of_vars f) k.argument r f.body c d) (sym (ap given_by k.is_arrow)) k.kept)

  -- the next function with the later ones
  next : (f : Function) (fs : List Function) (body : Option Body) (c : Option (Tree Note)) (d : Option Derivation) (ds : List (Option Derivation)) (n : ℕ)
      → IsKeptMaybe functions (kinds_of_vars f) (taken_by f.ty.ty) (given_by f.ty.ty) body c d
      → LimitsFor limited (faults.body_events functions (kinds_of_vars f) (taken_by f.ty.ty) (given_by f.ty.ty) body)
      → ((m : ℕ) → HoldFor limited (function_events functions fs (functions_of fs ds) m))
      → HoldFor limited (maybe_body_events functions f body (functions_of (f ∷ fs) (d ∷ ds)) n (λ rest m. function_events functions fs rest m))
  next f fs None None None ds n k l later = later n
  next f fs (Some body) (Some c) (Some d) ds n k l later =
      let es = faults.events functions (kinds_of_vars f) (taken_by f.ty.ty ∷ []) nowhere (Some (given_by f.ty.ty)) body.term in (
        name_same f.at.name,
        hold_append limited (body_events functions f body.term (nodes_of d) n) _ (body_complete functions f limited body.term c d n k (limits_left limited es _ l)) (later (n + size body.term)),
      )
  next f fs _ _ _ ds n k l later = absurd k

  -- function by function, in the order of the signatures
  pub functions_complete : (fs : List Function) (cs : List (Option (Tree Note))) (ds : List (Option Derivation)) → AreKept functions fs cs ds
      → LimitsFor limited (flat_map (faults.function_events functions) fs) → (n : ℕ) → HoldFor limited (function_events functions fs (functions_of fs ds) n)
  functions_complete [] [] [] k l n = (refl, tt)
  functions_complete (f ∷ fs) (c ∷ cs) (d ∷ ds) k l n =
      let lf = limits_left limited (faults.function_events functions f) _ l in (
        both_and (is_arrow f.ty.ty) (has_word_arrays f.ty.ty) (ap is_arrow k.0.is_arrow) k.0.arrays,
        next f fs f.body c d ds n (kept_at f c d k.0) lf.1.1 (functions_complete fs cs ds k.1 (limits_right limited (faults.function_events functions f) _ l)),
      )
  functions_complete _ _ _ k l n = absurd k
