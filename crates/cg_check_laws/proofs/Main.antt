-- The laws of typing.
use Rattle.std.proofs.Common.{◌≡◌, ℕ, ◌<◌, Bool, true, false, ◌||◌, Option, Some, None, List, [], ◌∷◌, ◌++◌, length, map, refl, sym, ap, ◌∙◌, subst, arith}
use Rattle.std.specs.List.{All, flat_map}
use Rattle.std.proofs.lemmas.List.Elements.{All-nil, All-cons, All-head, All-tail}
use Rattle.cg_base.specs.declared.kind.Kinds.{Kinds}
use Rattle.cg_base.specs.declared.place.Place.{Place}
use Rattle.cg_base.specs.Types.{Tau}
use Rattle.cg_core.specs.Derivations.{Derivation}
use Rattle.cg_core.specs.Kernels.{Function, Body}
use Rattle.cg_core.specs.Terms.{Tree, term, Note, erased}
use Rattle.cg_core_def.specs.Lawful.{IsLawfulFunction, IsLawfulBody}
use Rattle.cg_typing.specs.Contexts.{look, drops}
use Rattle.cg_typing.specs.Accepted.{kinds_of_vars, IsTypedMaybe, IsAcceptedFunction}
use Rattle.cg_faults.specs.Events.{nowhere, scope_end, events, body_events, function_events, RulesHold}
use Rattle.cg_check_def.specs.Kept.{body_core, body_tree, function_core, function_tree}
use Rattle.cg_typing.specs.Kept.{IsKeptMaybe, IsKept, AreKept}
use Rattle.cg_check_laws.specs.Laws.{BodiesAreJudgedExactly, KernelsAreJudgedExactly, OccurrenceMarksServe, OneCore, NormalFormsAreKept}
use Rattle.cg_check_def.specs.NormalForm.{core, tree}
use Rattle.cg_faults.specs.Occurrences.{touched, used, sightings}
use Rattle.cg_typing.specs.Parts.{is_arrow, taken_by, given_by}
use Rattle.cg_faults.specs.Plain.{plain_at}
use Rattle.cg_typing.specs.Rules.{Derives}
use Rattle.cg_check_laws.proofs.Basics.{hold_append, hold_left, hold_right, or_else, else_or}
use Rattle.cg_check_laws.proofs.Clash.{Lawful}
use Rattle.cg_check_laws.proofs.Clean.{Of, Within}
use Rattle.cg_check_laws.proofs.Complete.{complete}
use Rattle.cg_check_laws.proofs.ErasedCore.{erased_core}
use Rattle.cg_check_laws.proofs.Held.{held}
use Rattle.cg_check_laws.proofs.Occurs.{AllSeen, to_seen}
use Rattle.cg_check_laws.proofs.Parted.{Entry}
use Rattle.cg_check_laws.proofs.Sound.{sound}
use Rattle.cg_check_laws.proofs.SoundBinders.{ended, arrow_is}

pub zero_is : (i : ℕ) → i < 1 → 0 ≡ i
zero_is i lt = omega arith

module _ (functions : List Function) (vars : List Kinds) (types_in : ℕ) (argument result : Tau) where
  -- the one entry of the context
  entry : (q : Bool) → (drops vars argument || q) ≡ true → Entry vars q (Some argument) argument
  entry true h = refl
  entry false h = (refl, or_else (drops vars argument) false h refl)

  by_events : (place : Place) (body : Tree Place) → Lawful functions vars types_in 1 body
      → RulesHold (events functions vars (argument ∷ []) nowhere (Some result) body ++ scope_end functions vars 0 place argument body)
      → Derives functions vars (Some argument ∷ []) (tree functions (Some argument ∷ []) (argument ∷ []) body) (Some result) (core functions (argument ∷ []) (Some result) body)
  by_events place body lawful h =
      let e = ended functions vars types_in 0 place argument body (hold_right (events functions vars (argument ∷ []) nowhere (Some result) body) _ h) in
      sound functions vars types_in body (argument ∷ []) nowhere (Some result) (Some argument ∷ []) lawful refl
      (λ i lt. subst (λ i. Entry vars (touched i body) (look (Some argument ∷ []) i) (plain_at (argument ∷ []) i)) (zero_is i lt) (entry (touched 0 body) e.0))
      (hold_left _ _ h)
      (λ i lt. subst (λ i. AllSeen (drops vars (plain_at (argument ∷ []) i)) (sightings i body)) (zero_is i lt) e.1)

  by_derivation : (place : Place) (c : Tree Note) (d : Derivation) → Derives functions vars (Some argument ∷ []) d (Some result) c
      → (c ≡ core functions (argument ∷ []) (Some result) (erased c))
      × RulesHold (events functions vars (argument ∷ []) nowhere (Some result) (erased c) ++ scope_end functions vars 0 place argument (erased c))
  by_derivation place c d h =
      let w : Within (Some argument ∷ []) (argument ∷ []) =
      record { long = refl; at = λ i lt. subst (λ i. Of (look (Some argument ∷ []) i) (plain_at (argument ∷ []) i)) (zero_is i lt) refl } in
      let q = complete functions vars c (argument ∷ []) nowhere (Some result) (Some argument ∷ []) d w (λ i lt u b. absurd (cc)) h in
      let z = held functions vars c (Some argument ∷ []) d (Some result) h 0 (omega arith) in (
        q.core_is,
        hold_append (events functions vars (argument ∷ []) nowhere (Some result) (erased c)) _ q.ok
            (else_or (drops vars argument) (used 0 (erased c)) z, to_seen (drops vars argument) (sightings 0 (erased c)) (q.sighted 0 (omega arith))),
      )

  core_of : (place : Place) (body : Tree Place) (c : Tree Note) (d : Derivation) → erased c ≡ body → Derives functions vars (Some argument ∷ []) d (Some result) c → c ≡ core functions (argument ∷ []) (Some result) body
  core_of place body c d e h = (by_derivation place c d h).0 ∙ ap (core functions (argument ∷ []) (Some result)) e

place_of : Tree Place → Place
place_of (term a shape) = a

pub bodies : BodiesAreJudgedExactly
bodies functions vars argument result body n lawful = (
  λ h. record {
    core = core functions (argument ∷ []) (Some result) body.term;
    erases = erased_core functions vars n body.term (argument ∷ []) (Some result) 1 lawful;
    tree = tree functions (Some argument ∷ []) (argument ∷ []) body.term;
    derives = by_events functions vars n argument result body.param body.term lawful h;
  },
  λ t. subst (λ e. RulesHold (events functions vars (argument ∷ []) nowhere (Some result) e ++ scope_end functions vars 0 body.param argument e)) t.erases
      (by_derivation functions vars n argument result body.param t.core t.tree t.derives).1,
)

pub marks_serve : OccurrenceMarksServe
marks_serve functions vars argument result body n lawful c d e h =
    let a = place_of body in
    subst (λ c. Derives functions vars (Some argument ∷ []) (tree functions (Some argument ∷ []) (argument ∷ []) body) (Some result) c)
    (sym (core_of functions vars n argument result a body c d e h))
    (by_events functions vars n argument result a body lawful
    (subst (λ e. RulesHold (events functions vars (argument ∷ []) nowhere (Some result) e ++ scope_end functions vars 0 a argument e)) e
    (by_derivation functions vars n argument result a c d h).1))

pub one_core : OneCore
one_core functions vars argument result body c c' d d' e e' h h' =
    core_of functions vars 0 argument result (place_of body) body c d e h ∙ sym (core_of functions vars 0 argument result (place_of body) body c' d' e' h')

module _ (functions : List Function) where
  abbrev Legal : Function → Type 0
  Legal f = IsLawfulFunction (map (λ f. length f.vars) functions) f

  body_sound : (vars : List Kinds) (n : ℕ) (argument result : Tau) (body : Option Body) → IsLawfulBody (map (λ f. length f.vars) functions) n body
      → RulesHold (body_events functions vars argument result body) → IsTypedMaybe functions vars argument result body
  body_sound vars n argument result None s h = tt
  body_sound vars n argument result (Some body) s h = (bodies functions vars argument result body n s).0 h

  body_complete : (vars : List Kinds) (n : ℕ) (argument result : Tau) (body : Option Body) → IsLawfulBody (map (λ f. length f.vars) functions) n body
      → IsTypedMaybe functions vars argument result body → RulesHold (body_events functions vars argument result body)
  body_complete vars n argument result None s h = tt
  body_complete vars n argument result (Some body) s h = (bodies functions vars argument result body n s).1 h

  function_sound : (f : Function) → Legal f → RulesHold (function_events functions f) → IsAcceptedFunction functions f
  function_sound f s h = record {
    argument = taken_by f.ty.ty;
    result = given_by f.ty.ty;
    is_arrow = arrow_is f.ty.ty h.0;
    arrays = h.1.0;
    typed = body_sound (kinds_of_vars f) (length f.vars) (taken_by f.ty.ty) (given_by f.ty.ty) f.body s.body h.1.1;
  }

  function_complete : (f : Function) → Legal f → IsAcceptedFunction functions f → RulesHold (function_events functions f)
  function_complete f s h =
      let t : taken_by f.ty.ty ≡ h.argument = ap taken_by h.is_arrow in
      let u : given_by f.ty.ty ≡ h.result = ap given_by h.is_arrow in (
        ap is_arrow h.is_arrow,
        (
          h.arrays,
          subst (λ a. RulesHold (body_events functions (kinds_of_vars f) a (given_by f.ty.ty) f.body)) (sym t)
              (subst (λ r. RulesHold (body_events functions (kinds_of_vars f) h.argument r f.body)) (sym u)
              (body_complete (kinds_of_vars f) (length f.vars) h.argument h.result f.body s.body h.typed)),
        ),
      )

  all_sound : (fs : List Function) → All Legal fs → RulesHold (flat_map (function_events functions) fs) → All (IsAcceptedFunction functions) fs
  all_sound [] s h = All-nil (IsAcceptedFunction functions)
  all_sound (f ∷ fs) s h =
      All-cons (IsAcceptedFunction functions) f fs
      (function_sound f (All-head Legal f fs s) (hold_left (function_events functions f) _ h))
      (all_sound fs (All-tail Legal f fs s) (hold_right (function_events functions f) _ h))

  all_complete : (fs : List Function) → All Legal fs → All (IsAcceptedFunction functions) fs → RulesHold (flat_map (function_events functions) fs)
  all_complete [] s h = tt
  all_complete (f ∷ fs) s h =
      hold_append (function_events functions f) _
      (function_complete f (All-head Legal f fs s) (All-head (IsAcceptedFunction functions) f fs h))
      (all_complete fs (All-tail Legal f fs s) (All-tail (IsAcceptedFunction functions) f fs h))

  -- what is kept of a body, a function and some functions
  kept_body : (vars : List Kinds) (n : ℕ) (argument result : Tau) (body : Option Body) → IsLawfulBody (map (λ f. length f.vars) functions) n body
      → RulesHold (body_events functions vars argument result body) → IsKeptMaybe functions vars argument result body (body_core functions argument result body) (body_tree functions argument body)
  kept_body vars n argument result None s h = tt
  kept_body vars n argument result (Some body) s h = record {
    erases = erased_core functions vars n body.term (argument ∷ []) (Some result) 1 s;
    derives = by_events functions vars n argument result body.param body.term s h;
  }

  kept_function : (f : Function) → Legal f → RulesHold (function_events functions f) → IsKept functions f (function_core functions f) (function_tree functions f)
  kept_function f s h = record {
    argument = taken_by f.ty.ty;
    result = given_by f.ty.ty;
    is_arrow = arrow_is f.ty.ty h.0;
    arrays = h.1.0;
    kept = kept_body (kinds_of_vars f) (length f.vars) (taken_by f.ty.ty) (given_by f.ty.ty) f.body s.body h.1.1;
  }

  kept_all : (fs : List Function) → All Legal fs → RulesHold (flat_map (function_events functions) fs) → AreKept functions fs (map (function_core functions) fs) (map (function_tree functions) fs)
  kept_all [] s h = tt
  kept_all (f ∷ fs) s h =
      (kept_function f (All-head Legal f fs s) (hold_left (function_events functions f) _ h), kept_all fs (All-tail Legal f fs s) (hold_right (function_events functions f) _ h))

pub kept : NormalFormsAreKept
kept functions lawful h = kept_all functions functions lawful.functions_stand (all_complete functions functions lawful.functions_stand h)

pub kernels : KernelsAreJudgedExactly
kernels functions lawful = (all_sound functions functions lawful.functions_stand, all_complete functions functions lawful.functions_stand)
