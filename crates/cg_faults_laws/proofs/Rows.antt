-- What the events that are tests of plain typing tell of the conditions at each moment of a node.
use Rattle.std.proofs.Common.{◌≡◌, ◌≢◌, ℕ, zero, suc, ◌<◌, ◌≤◌, Bool, true, false, cond, Option, Some, None, List, [], ◌∷◌, ◌++◌, length, map, slice_get, refl, ap, ◌∙◌, arith, nat_eq, eqb-true}
use Rattle.cg_base.specs.declared.kind.Kinds.{Kinds}
use Rattle.cg_base.specs.declared.place.Place.{Place}
use Rattle.cg_base.specs.Types.{Tau}
use Rattle.cg_core.specs.Kernels.{Function}
use Rattle.cg_core.specs.Terms.{Tree, term, Named, Arg}
use Rattle.cg_faults.specs.declared.rule.Rule.TheVariants.{K1, T1, T2, T3, T13, T14}
use Rattle.cg_typing.specs.Contexts.{push}
use Rattle.cg_faults.specs.Conditions.{Condition, typed, at_stage, agrees, literal_conditions, record_conditions, asked_condition, argument_conditions}
use Rattle.cg_faults.specs.Events.{event, judged, meets, checked, record_events, asked_event, argument_events}
use Rattle.cg_typing.specs.Functions.{Asked, these, a_cell, an_element, nothing, next_asked, later_asked}
use Rattle.cg_typing.specs.Parts.{in_range}
use Rattle.cg_faults.specs.Plain.{banged_where}
use Rattle.cg_faults.specs.Rule.{Test, rule}
use Rattle.cg_typing.specs.Rules.{note_at}
use Rattle.cg_faults.specs.Sites.{Entry, Site, observe, place_inside}
use Rattle.cg_kinds.specs.Kinds.{bang, is_word}
use Rattle.cg_faults_laws.proofs.Tells.{Tells, tells_append, tells_one, tells_cons, tells_nothing}

-- ---- lists

pub unequal : (m n : ℕ) → m ≢ n → nat_eq m n ≡ false
unequal m n h = go (nat_eq m n) refl
  where
    go : (q : Bool) → nat_eq m n ≡ q → q ≡ false
    go true e = absurd (h (eqb-true m n e))
    go false e = refl

other : (m n : ℕ) → n < m → nat_eq m n ≡ false
other m n h = unequal m n (λ e. (omega (arith, e, h)))

pub no_stage : (stages : List (List Condition)) (m : ℕ) → length stages ≤ m → at_stage stages m ≡ []
no_stage [] m h = refl
no_stage (s ∷ stages) zero h = absurd (omega (arith, h))
no_stage (s ∷ stages) (suc m) h = no_stage stages m (omega (arith, h))

pub past : (stages : List (List Condition)) (size : List Condition) (m k : ℕ) → length stages ≤ m → k < m → (at_stage stages m ++ cond (nat_eq m k) size []) ≡ []
past stages size m k h l = ap (λ cs. cs ++ cond (nat_eq m k) size []) (no_stage stages m h) ∙ ap (λ q. cond q size []) (other m k l)

-- ---- the types of a scope

abbrev pub entry_types : List Entry → List Tau
entry_types scope = map (λ e. e.ty) scope

pub types_push : (scope : List Entry) (e : Entry) → entry_types (push scope e) ≡ push (entry_types scope) e.ty
types_push [] e = refl
types_push (x ∷ scope) e = ap (λ ts. x.ty ∷ ts) (types_push scope e)

pub types_observed : (test : ℕ → Bool) (scope : List Entry) → entry_types (observe test scope) ≡ banged_where test (entry_types scope)
types_observed test [] = refl
types_observed test (e ∷ scope) = go (test zero) (types_observed (λ i. test (suc i)) scope)
  where
    go : (q : Bool) → entry_types (observe (λ i. test (suc i)) scope) ≡ banged_where (λ i. test (suc i)) (entry_types scope)
        → (cond q (record { variable = e.variable; ty = bang e.ty; observed = true }) e).ty ∷ entry_types (observe (λ i. test (suc i)) scope) ≡ cond q (bang e.ty) e.ty ∷ banged_where (λ i. test (suc i)) (entry_types scope)
    go true h = ap (λ ts. bang e.ty ∷ ts) h
    go false h = ap (λ ts. e.ty ∷ ts) h

-- the variable that is bound last stands behind the others, and one more behind it
pub at_last : (scope : List Entry) (e : Entry) → slice_get (push scope e) (length (entry_types scope)) ≡ Some e
at_last [] e = refl
at_last (x ∷ scope) e = at_last scope e

pub at_second : (scope : List Entry) (d e : Entry) → slice_get (push (push scope d) e) (suc (length (entry_types scope))) ≡ Some e
at_second [] d e = refl
at_second (x ∷ scope) d e = at_second scope d e

-- ---- tests of plain typing

module _ (functions : List Function) (root : Site) where
  -- one that is told where a part stands
  pub tells_noted : (t : Test) (e : Tree Place) (h : Bool) → Tells functions root (event t (note_at e) h ∷ []) (typed t (place_inside e) h ∷ [])
  tells_noted t (term a shape) h = tells_one functions root t a h

  pub tells_meets : (direction : Option Tau) (place : Place) (t : Tau) → Tells functions root (meets direction place t) (agrees direction place t)
  tells_meets None place t = tells_nothing functions root
  tells_meets (Some wanted) place t = tells_one functions root (rule T1) place _

  pub tells_literal : (direction : Option Tau) (place : Place) (value : Option ℕ)
      → Tells functions root (checked direction place (λ t. judged T1 place (is_word t) ∷ (judged T3 place (in_range value t) ∷ []))) (literal_conditions direction place value)
  tells_literal None place value = tells_one functions root (rule T2) place false
  tells_literal (Some t) place value = tells_cons functions root (rule T1) place _ _ _ (tells_one functions root (rule T3) place _)

  pub tells_record : (direction : Option Tau) (place : Place) (fs : Named Place) → Tells functions root (record_events direction place fs) (record_conditions direction place fs)
  tells_record None place fs = tells_nothing functions root
  tells_record (Some t) place fs = tells_one functions root (rule T1) place _

  module _ (vars : List Kinds) where
    tells_asked : (asked : Asked) (place : Place) (t : Tau) → Tells functions root (asked_event functions vars asked place t) (asked_condition vars asked place t)
    tells_asked (these wanted) place t = tells_one functions root (rule K1) place _
    tells_asked a_cell place t = tells_one functions root (rule T13) place _
    tells_asked an_element place t = tells_one functions root (rule T14) place _
    tells_asked nothing place t = tells_nothing functions root

    pub tells_arguments : (asked : List Asked) (args : List Arg) → Tells functions root (argument_events functions vars asked args) (argument_conditions vars asked args)
    tells_arguments asked [] = tells_nothing functions root
    tells_arguments asked (a ∷ args) =
        tells_cons functions root (rule T14) a.place _ _ _
        (tells_append functions root _ _ _ _ (tells_asked (next_asked asked) a.place a.ty) (tells_arguments (later_asked asked) args))
