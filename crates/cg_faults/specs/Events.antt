-- The events of a term, a function and a kernel in reading order: what is judged, by which rule and at which place. The first
-- event that fails is the fault of the source (docs/LANGUAGE.md, "Typing"). What is judged behind the first that fails means
-- nothing, so the tests are total.
use Rattle.std.specs.Prelude.{ℕ, zero, suc, Bool, true, false, ◌&&◌, ◌||◌, not, cond, IsTrue, nat_lt, Option, Some, None, List, [], ◌∷◌, ◌++◌, length, map}
use Rattle.std.specs.List.{flat_map}
use Rattle.cg_base.specs.declared.kind.Kinds.{Kinds}
use Rattle.cg_base.specs.declared.place.Place.{Place}
use Rattle.cg_base.specs.Types as types
use Rattle.cg_base.specs.Types.{Tau, word, fields, Parts, part}
use Rattle.cg_core.specs.declared.term.Seen.{Seen}
use Rattle.cg_core.specs.Kernels.{Function, Body}
use Rattle.cg_core.specs.Terms.{Tree, term, Shape, var, unit, bool, lit, fun, op, app, lets, let_bang, if_else, con, case_of, esac, struct, member, take_field, put, cast, annot, none, more, Named, end, field, Arg}
use Rattle.cg_kinds.specs.Kinds.{kinds, is_word}
use Rattle.cg_faults.specs.declared.rule.Rule.{Rule}
use Rattle.cg_faults.specs.declared.rule.Rule.TheVariants.{K1, K2, K3, K4, K5, K6, K7, T1, T2, T3, T4, T5, T6, T7, T8, T9, T10, T11, T12, T13, T14}
use Rattle.cg_faults.specs.Same.{same}
use Rattle.cg_typing.specs.Contexts.{push, among, drops, shares}
use Rattle.cg_typing.specs.Accepted.{kinds_of_vars}
use Rattle.cg_typing.specs.Functions.{Asked, these, a_cell, an_element, nothing, asked_by, next_asked, later_asked, meets_asked}
use Rattle.cg_faults.specs.Occurrences.{touched, used, sightings}
use Rattle.cg_typing.specs.Operators.{Sort, arithmetic, logic, sort_of, takes}
use Rattle.cg_typing.specs.Parts.{is_arrow, is_variant, taken_by, given_by, is_read_only, widens, field_in, alternative_in, held, is_there, is_left, may_be_put_over, with_part, is_last, has_word_arrays, in_range, is_small_enough}
use Rattle.cg_faults.specs.Plain.{plain_at, observed, mentioned, plain, plain_in, is_made_of}
use Rattle.cg_faults.specs.Rule.{Test, rule, type_limit}
use Rattle.cg_typing.specs.Rules.{note_at, is_literal, second_branch}

-- an event: what it tests, its place, and whether that holds there
pub data Event : Type 0 where
  event : (test : Test) (place : Place) (holds : Bool) → Event

abbrev pub judged : Rule → Place → Bool → Event
judged r place holds = event (rule r) place holds

-- a type is within the limit
abbrev pub within : Place → Tau → Event
within place t = event type_limit place (is_small_enough t)

-- the variables with an earlier occurrence that clashes with one in what is judged
abbrev pub Before : Type 0
Before = ℕ → Bool

abbrev pub nowhere : Before
nowhere i = false

-- and those of one more part
abbrev pub after : Before → Tree Place → Before
after before e i = before i || touched i e

-- and those of a first part, whose observers' sightings clash with nothing in the second
abbrev pub after_seen : List Seen → Before → Tree Place → Before
after_seen observers before e i = before i || (not (among i observers) && touched i e)

-- among the first n variables: an inner scope that is left may have used the same positions
abbrev pub upto : ℕ → Before → Before
upto n before i = nat_lt i n && before i

-- T1 where a synthesised type is checked
abbrev pub meets : Option Tau → Place → Tau → List Event
meets None place t = []
meets (Some wanted) place t = judged T1 place (same wanted t) ∷ []

-- T2 where nothing says of which type it is, or else what is judged against the type
abbrev pub checked : Option Tau → Place → (Tau → List Event) → List Event
checked None place against = judged T2 place false ∷ []
checked (Some t) place against = against t

-- ---- operators, over the events of their operands in a direction

-- the guide, then the operator's own test, then the other operand
abbrev pub guided : Sort → Place → Tau → (Option Tau → List Event) → (Option Tau → List Event) → List Event
guided sort place t guide other = guide None ++ (judged T12 place (takes sort t) ∷ other (Some t))

-- with two operands, the left one a literal or not, which synthesise these types
abbrev pub binary_events : Sort → Option Tau → Place → Bool → Tau → Tau → (Option Tau → List Event) → (Option Tau → List Event) → List Event
binary_events logic direction place literal a b left right = left (Some types.bool) ++ (right (Some types.bool) ++ meets direction place types.bool)
binary_events arithmetic (Some t) place literal a b left right = judged T12 place (is_word t) ∷ (left (Some t) ++ right (Some t))
binary_events arithmetic None place true a b left right = guided arithmetic place b right left
binary_events arithmetic None place false a b left right = guided arithmetic place a left right
binary_events sort direction place true a b left right = guided sort place b right left ++ meets direction place types.bool
binary_events sort direction place false a b left right = guided sort place a left right ++ meets direction place types.bool

-- with one
abbrev pub unary_events : Sort → Option Tau → Place → Tau → (Option Tau → List Event) → List Event
unary_events logic direction place a operand = operand (Some types.bool) ++ meets direction place types.bool
unary_events arithmetic (Some t) place a operand = judged T12 place (is_word t) ∷ operand (Some t)
unary_events arithmetic None place a operand = operand None ++ (judged T12 place (is_word a) ∷ [])
unary_events sort direction place a operand = operand None ++ (judged T12 place (takes sort a) ∷ meets direction place types.bool)

-- ---- records

-- the directions of fields that are checked against a record type, or synthesised
abbrev pub part_directions : Parts → List (Option Tau)
part_directions types.end = []
part_directions (part name t taken ps) = Some t ∷ part_directions ps

abbrev pub field_directions : Option Tau → List (Option Tau)
field_directions (Some (fields ps sigil)) = part_directions ps
field_directions _ = []

abbrev pub next_direction : List (Option Tau) → Option Tau
next_direction [] = None
next_direction (direction ∷ later) = direction

abbrev pub later_directions : List (Option Tau) → List (Option Tau)
later_directions [] = []
later_directions (direction ∷ later) = later

-- T1 of a record that is checked
abbrev pub record_events : Option Tau → Place → Named Place → List Event
record_events None place fs = []
record_events (Some t) place fs = judged T1 place (is_made_of t fs) ∷ []

-- ---- branches

-- for each variable of the context, in order of binding, of which it is told whether each branch uses it: at the branch
-- that doesn't
abbrev pub branch_events : List Kinds → (ℕ → Bool) → (ℕ → Bool) → Place → Place → List Tau → List Event
branch_events vars first second x y [] = []
branch_events vars first second x y (t ∷ ts) =
    judged K5 (cond (first zero) y x) (drops vars t || cond (first zero) (second zero) (not (second zero)))
    ∷ branch_events vars (λ i. first (suc i)) (λ i. second (suc i)) x y ts

module _ (functions : List Function) (vars : List Kinds) where
  -- ---- type arguments: T14 of the written type, and then what the function asks of it

  abbrev pub asked_event : Asked → Place → Tau → List Event
  asked_event (these wanted) place t = judged K1 place (meets_asked vars (these wanted) t) ∷ []
  asked_event a_cell place t = judged T13 place (meets_asked vars a_cell t) ∷ []
  asked_event an_element place t = judged T14 place (meets_asked vars an_element t) ∷ []
  asked_event nothing place t = []

  abbrev pub argument_events : List Asked → List Arg → List Event
  argument_events asked [] = []
  argument_events asked (a ∷ args) =
      judged T14 a.place (has_word_arrays a.ty) ∷ (asked_event (next_asked asked) a.place a.ty ++ argument_events (later_asked asked) args)

  -- ---- scopes

  -- K4 at each observer
  abbrev pub observer_events : List Tau → Before → List Seen → List Event
  observer_events p before [] = []
  observer_events p before (o ∷ os) = judged K4 o.place (not (before o.var) || shares vars (plain_at p o.var)) ∷ observer_events p before os

  -- where the scope of variable n ends, K3: at its binder where it has no use, and at each observer whose second part has none
  abbrev pub scope_end : ℕ → Place → Tau → Tree Place → List Event
  scope_end n binder t k =
      judged K3 binder (drops vars t || used n k) ∷ map (λ s. judged K3 s.place (drops vars t || s.used_later)) (sightings n k)

  abbrev mutual
    -- the events of a term in a plain context, in a direction, after these occurrences; the size of its type comes last
    pub events : List Tau → Before → Option Tau → Tree Place → List Event
    events p before direction (term place shape) =
        events_shape p before direction place shape ++ (within place (plain_in functions p direction (term place shape)) ∷ [])

    pub events_shape : List Tau → Before → Option Tau → Place → Shape Place → List Event
    -- a variable: whether it may be shared, where it was touched before
    events_shape p before direction place (var i) =
        judged K4 place (not (before i) || shares vars (plain_at p i)) ∷ meets direction place (plain_at p i)
    events_shape p before direction place unit = meets direction place types.unit
    events_shape p before direction place (bool b) = meets direction place types.bool
    -- a number: it is checked alone, against a word that it is in range of
    events_shape p before direction place (lit value) =
        checked direction place (λ t. judged T1 place (is_word t) ∷ (judged T3 place (in_range value t) ∷ []))
    -- a function: its type arguments
    events_shape p before direction place (fun f args) =
        argument_events (asked_by functions f) args ++ meets direction place (mentioned functions f args)
    -- operators
    events_shape p before direction place (op o (more x none)) =
        unary_events (sort_of o) direction place (plain functions p x) (λ way. events p before way x)
    events_shape p before direction place (op o (more l (more r none))) =
        binary_events (sort_of o) direction place (is_literal l) (plain functions p l) (plain functions p r)
        (λ way. events p before way l) (λ way. events p (after before l) way r)
    events_shape p before direction place (op o ts) = []
    -- a call: the function, whether it is one, and the argument
    events_shape p before direction place (app f x) =
        events p before None f ++ (judged T4 (note_at f) (is_arrow (plain functions p f))
        ∷ (events p (after before f) (Some (taken_by (plain functions p f))) x ++ meets direction place (given_by (plain functions p f))))
    -- a binding: the value, the body, and the end of the scope
    events_shape p before direction place (lets binder e k) =
        events p before None e ++ (events (push p (plain functions p e)) (upto (length p) (after before e)) direction k
        ++ scope_end (length p) binder (plain functions p e) k)
    -- a binding that observes: the observers, the value with them observed, whether it may escape, the body, and the end of the scope
    events_shape p before direction place (let_bang observers binder e k) =
        observer_events p before observers ++ (events (observed observers p) before None e
        ++ (judged K2 (note_at e) (kinds vars (plain functions (observed observers p) e)).escape
        ∷ (events (push p (plain functions (observed observers p) e)) (upto (length p) (after_seen observers before e)) direction k
        ++ scope_end (length p) binder (plain functions (observed observers p) e) k)))
    -- a condition: it, both branches, and then what one of them uses alone
    events_shape p before direction place (if_else c x y) =
        events p before (Some types.bool) c ++ (events p (after before c) direction x
        ++ (events p (after before c) (second_branch direction (plain functions p x)) y
        ++ branch_events vars (λ i. used i x) (λ i. used i y) (note_at x) (note_at y) p))
    -- a constructor: whether the variant has the alternative, and the payload
    events_shape p before direction place (con name e) =
        checked direction place (λ t. judged T1 place (is_variant t) ∷ (judged T8 place (is_left (alternative_in name t))
        ∷ events p before (Some (held (alternative_in name t))) e))
    -- a match: the alternative, its branch with the end of the payload's scope, the other with that of the rest's, and what one uses alone
    events_shape p before direction place (case_of e at binder x y) =
        events p before None e ++ (judged T8 at.place (is_there (alternative_in at.name (plain functions p e)))
        ∷ (judged T10 at.place (is_left (alternative_in at.name (plain functions p e)))
        ∷ (events (push p (held (alternative_in at.name (plain functions p e)))) (upto (length p) (after before e)) direction x
        ++ (scope_end (length p) binder (held (alternative_in at.name (plain functions p e))) x
        ++ (events (push p (with_part at.name true (plain functions p e))) (upto (length p) (after before e))
        (second_branch direction (plain functions (push p (held (alternative_in at.name (plain functions p e)))) x)) y
        ++ (scope_end (length p) at.place (with_part at.name true (plain functions p e)) y
        ++ branch_events vars (λ i. used i x) (λ i. used i y) (note_at x) (note_at y) p))))))
    -- the last alternative: that it is there, is left, and is the only one
    events_shape p before direction place (esac at e) =
        events p before None e ++ (judged T8 at.place (is_there (alternative_in at.name (plain functions p e)))
        ∷ (judged T10 at.place (is_left (alternative_in at.name (plain functions p e)))
        ∷ (judged T9 at.place (is_last at.name (plain functions p e))
        ∷ meets direction place (held (alternative_in at.name (plain functions p e))))))
    -- a record that is made: that it is one of these fields, and each field
    events_shape p before direction place (struct fs) = record_events direction place fs ++ field_events p before (field_directions direction) fs
    -- a member: that the field is there, is left, and the record may be shared
    events_shape p before direction place (member e at) =
        events p before None e ++ (judged T5 at.place (is_there (field_in at.name (plain functions p e)))
        ∷ (judged T6 at.place (is_left (field_in at.name (plain functions p e)))
        ∷ (judged K6 at.place (shares vars (plain functions p e))
        ∷ meets direction place (held (field_in at.name (plain functions p e))))))
    -- a take: that the field is there, may be written and is left, the body, and the ends of both scopes
    events_shape p before direction place (take_field e at rest binder k) =
        events p before None e ++ (judged T5 at.place (is_there (field_in at.name (plain functions p e)))
        ∷ (judged T7 at.place (not (is_read_only (plain functions p e)))
        ∷ (judged T6 at.place (is_left (field_in at.name (plain functions p e)))
        ∷ (events (push (push p (with_part at.name true (plain functions p e))) (held (field_in at.name (plain functions p e))))
        (upto (length p) (after before e)) direction k
        ++ (scope_end (length p) rest (with_part at.name true (plain functions p e)) k
        ++ scope_end (suc (length p)) binder (held (field_in at.name (plain functions p e))) k)))))
    -- a put: that the field is there, may be written and put over, and the value
    events_shape p before direction place (put e at x) =
        events p before None e ++ (judged T5 at.place (is_there (field_in at.name (plain functions p e)))
        ∷ (judged T7 at.place (not (is_read_only (plain functions p e)))
        ∷ (judged K7 at.place (may_be_put_over vars (field_in at.name (plain functions p e)))
        ∷ (events p (after before e) (Some (held (field_in at.name (plain functions p e)))) x
        ++ meets direction place (with_part at.name false (plain functions p e))))))
    -- a cast: the word, and whether the one that is wanted is as wide
    events_shape p before direction place (cast e) =
        checked direction place (λ t. events p before None e ++ (judged T11 place (widens (plain functions p e) t) ∷ []))
    -- an annotation: the written type, and the part against it
    events_shape p before direction place (annot e a) =
        judged T14 a.place (has_word_arrays a.ty) ∷ (events p before (Some a.ty) e ++ meets direction place a.ty)

    pub field_events : List Tau → Before → List (Option Tau) → Named Place → List Event
    field_events p before directions end = []
    field_events p before directions (field name e fs) =
        events p before (next_direction directions) e ++ field_events p (after before e) (later_directions directions) fs

  -- the events of a body in the context of the argument alone, checked against the result
  abbrev pub body_events : Tau → Tau → Option Body → List Event
  body_events argument result None = []
  body_events argument result (Some body) =
      events (argument ∷ []) nowhere (Some result) body.term ++ scope_end 0 body.param argument body.term

-- the events of a function: its signature's type, and then its body
abbrev pub function_events : List Function → Function → List Event
function_events functions f =
    judged T4 f.ty.place (is_arrow f.ty.ty) ∷ (judged T14 f.ty.place (has_word_arrays f.ty.ty)
    ∷ body_events functions (kinds_of_vars f) (taken_by f.ty.ty) (given_by f.ty.ty) f.body)

-- the events of a kernel: those of its functions, in the order of their signatures
abbrev pub kernel_events : List Function → List Event
kernel_events functions = flat_map (function_events functions) functions

-- no event of these fails
abbrev pub AllHold : List Event → Type 0
AllHold [] = Unit {0}
AllHold (event test place holds ∷ later) = IsTrue holds × AllHold later

-- the rule that is judged holds; the limit on types is no rule
abbrev pub RuleHolds : Event → Type 0
RuleHolds (event (rule r) place holds) = IsTrue holds
RuleHolds (event type_limit place holds) = Unit {0}

-- every rule that is judged holds
abbrev pub RulesHold : List Event → Type 0
RulesHold [] = Unit {0}
RulesHold (x ∷ later) = RuleHolds x × RulesHold later

-- and the limit on types, wherever it is judged
abbrev pub LimitHolds : Event → Type 0
LimitHolds (event (rule r) place holds) = Unit {0}
LimitHolds (event type_limit place holds) = IsTrue holds

abbrev pub LimitsHold : List Event → Type 0
LimitsHold [] = Unit {0}
LimitsHold (x ∷ later) = LimitHolds x × LimitsHold later

-- what fails, and the place
abbrev pub Fault : Type 0
Fault = Test × Place

-- the first event that fails
abbrev pub first_failing : List Event → Option Fault
first_failing [] = None
first_failing (event test place true ∷ later) = first_failing later
first_failing (event test place false ∷ later) = Some (test, place)
