-- The conditions of a body: what is judged at each node before its parts, between them and behind them, and where each
-- condition fails. Those on occurrences speak of the whole body.
use Rattle.std.specs.Prelude.{◌≡◌, ℕ, suc, Bool, true, false, not, cond, nat_eq, Option, Some, None, List, [], ◌∷◌, ◌++◌, length, slice_get}
use Rattle.std.specs.List.{flat_map}
use Rattle.cg_base.specs.declared.kind.Kinds.{Kinds}
use Rattle.cg_base.specs.declared.place.Place.{Place}
use Rattle.cg_base.specs.Types as types
use Rattle.cg_base.specs.Types.{Tau, part}
use Rattle.cg_core.specs.declared.term.Seen.{Seen}
use Rattle.cg_core.specs.Kernels.{Function}
use Rattle.cg_core.specs.Terms.{Tree, Shape, var, unit, bool, lit, fun, op, app, lets, let_bang, if_else, con, case_of, esac, struct, member, take_field, put, cast, annot, none, more, Named, Arg}
use Rattle.cg_kinds.specs.Kinds.{kinds, is_word}
use Rattle.cg_faults.specs.declared.rule.Rule.{Rule}
use Rattle.cg_faults.specs.declared.rule.Rule.TheVariants.{K1, K2, K3, K4, K5, K6, K7, T1, T2, T3, T4, T5, T6, T7, T8, T9, T10, T11, T12, T13, T14}
use Rattle.cg_faults.specs.Same.{same}
use Rattle.cg_typing.specs.Contexts.{push, drops, shares}
use Rattle.cg_typing.specs.Functions.{Asked, these, a_cell, an_element, nothing, asked_by, next_asked, later_asked, meets_asked}
use Rattle.cg_typing.specs.Operators.{Sort, arithmetic, logic, sort_of, takes}
use Rattle.cg_typing.specs.Parts.{is_arrow, is_variant, given_by, is_read_only, widens, field_in, alternative_in, held, is_there, is_left, may_be_put_over, with_part, is_last, has_word_arrays, in_range, is_small_enough}
use Rattle.cg_faults.specs.Plain.{mentioned, plain_in, is_made_of}
use Rattle.cg_faults.specs.Rule.{Test, rule, type_limit}
use Rattle.cg_typing.specs.Rules.{is_literal}
use Rattle.cg_faults.specs.Sites.{Path, Variable, bound_at, Entry, Site, scope_types, shape_inside, place_inside, type_here, type_seen, parts}
use Rattle.cg_faults.specs.Touches.{Touch, IsTouch, TouchBefore, IsSighting, HasUse, IsClashing}

-- a condition, with the place where it is told
pub data Condition : Type 0 where
  -- a test of plain typing
  typed : Test → Place → Bool → Condition
  -- K4 at a touch of a variable that may be shared or not
  touched : Place → Bool → Variable → Touch → Condition
  -- at a branch, the second path, of a variable that may be dropped or not: no use there, and one in the other branch
  missed : Place → Bool → Variable → Path → Path → Condition
  -- K3 at the binder of a variable that may be dropped or not
  unused : Place → Bool → Variable → Condition
  -- K3 at an observer of it
  observed : Bool → Variable → Condition

-- ---- where a condition fails

module _ (functions : List Function) (root : Site) where
  -- the first sighting of a variable whose second part has no use of it
  pub record IsUnusedBehind (x : Variable) (place : Place) : Type 0 where
    pub path : Path
    pub number : ℕ
    pub observer : Seen
    pub sighting : IsSighting functions root x path number observer
    pub at : place ≡ observer.place
    pub unused : HasUse functions root x (push path 1) → ⊥
    pub first : (t : Touch) (n : ℕ) → t.observer ≡ Some n → IsTouch functions root x t → TouchBefore t (record { path = path; observer = Some number })
        → HasUse functions root x (push t.path 1)

  -- the condition fails by this test at this place
  abbrev pub Breaks : Condition → Test → Place → Type 0
  Breaks (typed tested at holds) test place = (test ≡ tested) × (place ≡ at) × (holds ≡ false)
  Breaks (touched at shared x touch) test place = (test ≡ rule K4) × (place ≡ at) × (shared ≡ false) × IsClashing functions root x touch
  Breaks (missed at dropped x one other) test place =
      (test ≡ rule K5) × (place ≡ at) × (dropped ≡ false) × HasUse functions root x one × (HasUse functions root x other → ⊥)
  Breaks (unused at dropped x) test place = (test ≡ rule K3) × (place ≡ at) × (dropped ≡ false) × (HasUse functions root x [] → ⊥)
  Breaks (observed dropped x) test place =
      (test ≡ rule K3) × (dropped ≡ false) × HasUse functions root x [] × IsUnusedBehind x place

-- ---- the conditions of a node

abbrev pub ruled : Rule → Place → Bool → Condition
ruled r place holds = typed (rule r) place holds

-- T1 where a node that synthesises is checked
abbrev pub agrees : Option Tau → Place → Tau → List Condition
agrees None place t = []
agrees (Some wanted) place t = ruled T1 place (same wanted t) ∷ []

abbrev pub literal_conditions : Option Tau → Place → Option ℕ → List Condition
literal_conditions None place value = ruled T2 place false ∷ []
literal_conditions (Some t) place value = ruled T1 place (is_word t) ∷ (ruled T3 place (in_range value t) ∷ [])

abbrev pub constructor_conditions : Option Tau → Place → List ℕ → List Condition
constructor_conditions None place name = ruled T2 place false ∷ []
constructor_conditions (Some t) place name = ruled T1 place (is_variant t) ∷ (ruled T8 place (is_left (alternative_in name t)) ∷ [])

abbrev pub record_conditions : Option Tau → Place → Named Place → List Condition
record_conditions None place fs = []
record_conditions (Some t) place fs = ruled T1 place (is_made_of t fs) ∷ []

abbrev pub asked_condition : List Kinds → Asked → Place → Tau → List Condition
asked_condition vars (these wanted) place t = ruled K1 place (meets_asked vars (these wanted) t) ∷ []
asked_condition vars a_cell place t = ruled T13 place (meets_asked vars a_cell t) ∷ []
asked_condition vars an_element place t = ruled T14 place (meets_asked vars an_element t) ∷ []
asked_condition vars nothing place t = []

abbrev pub argument_conditions : List Kinds → List Asked → List Arg → List Condition
argument_conditions vars asked [] = []
argument_conditions vars asked (a ∷ args) =
    ruled T14 a.place (has_word_arrays a.ty) ∷ (asked_condition vars (next_asked asked) a.place a.ty ++ argument_conditions vars (later_asked asked) args)

-- a touch of the variable in scope there: none where it is observed
abbrev pub touch_condition : List Kinds → Place → Touch → Option Entry → List Condition
touch_condition vars place touch None = []
touch_condition vars place touch (Some e) = cond e.observed [] (touched place (shares vars e.ty) e.variable touch ∷ [])

abbrev pub observer_conditions : List Kinds → Site → ℕ → List Seen → List Condition
observer_conditions vars s n [] = []
observer_conditions vars s n (o ∷ os) =
    touch_condition vars o.place (record { path = s.path; observer = Some n }) (slice_get s.scope o.var) ++ observer_conditions vars s (suc n) os

-- where the scope ends of the variable of this number that is bound at a node
abbrev pub scope_conditions : List Kinds → Place → Tau → Variable → List Condition
scope_conditions vars binder t x = unused binder (drops vars t) x ∷ (observed (drops vars t) x ∷ [])

abbrev pub bound_conditions : List Kinds → Site → ℕ → Place → Tau → List Condition
bound_conditions vars s number binder t = scope_conditions vars binder t (bound_at s.path number)

-- behind two branches, for each variable outside in order of binding
abbrev pub branch_conditions : List Kinds → Site → Tree Place → Tree Place → List Condition
branch_conditions vars s a b =
    flat_map (λ e. missed (place_inside b) (drops vars e.ty) e.variable (push s.path 1) (push s.path 2)
    ∷ (missed (place_inside a) (drops vars e.ty) e.variable (push s.path 2) (push s.path 1) ∷ [])) s.scope

-- ---- when a node's conditions are judged

-- of a node with one part, with two and with three: before each part, and behind the last one
pub record AroundOne : Type 0 where
  pub before : List Condition
  pub behind : List Condition

pub record AroundTwo : Type 0 where
  pub before_first : List Condition
  pub before_second : List Condition
  pub behind_both : List Condition

pub record AroundThree : Type 0 where
  pub before_first : List Condition
  pub before_second : List Condition
  pub before_third : List Condition
  pub behind_all : List Condition

-- each as a list by how many parts are done; of a node whose conditions all stand before its parts, if it has any, it is one entry
abbrev pub before_all : List Condition → List (List Condition)
before_all cs = cs ∷ []

abbrev pub around_one : AroundOne → List (List Condition)
around_one a = a.before ∷ (a.behind ∷ [])

abbrev pub around_two : AroundTwo → List (List Condition)
around_two a = a.before_first ∷ (a.before_second ∷ (a.behind_both ∷ []))

abbrev pub around_three : AroundThree → List (List Condition)
around_three a = a.before_first ∷ (a.before_second ∷ (a.before_third ∷ (a.behind_all ∷ [])))

-- an operator's own test, before its operands, behind the guide, or behind the operand
abbrev pub binary_conditions : Sort → Option Tau → Place → Tau → List (List Condition)
binary_conditions logic direction place guide = around_two (record { before_first = []; before_second = []; behind_both = agrees direction place types.bool })
binary_conditions arithmetic (Some t) place guide =
    around_two (record { before_first = ruled T12 place (is_word t) ∷ []; before_second = []; behind_both = [] })
binary_conditions arithmetic None place guide =
    around_two (record { before_first = []; before_second = ruled T12 place (is_word guide) ∷ []; behind_both = [] })
binary_conditions sort direction place guide =
    around_two (record { before_first = []; before_second = ruled T12 place (takes sort guide) ∷ []; behind_both = agrees direction place types.bool })

abbrev pub unary_conditions : Sort → Option Tau → Place → Tau → List (List Condition)
unary_conditions logic direction place guide = around_one (record { before = []; behind = agrees direction place types.bool })
unary_conditions arithmetic (Some t) place guide = around_one (record { before = ruled T12 place (is_word t) ∷ []; behind = [] })
unary_conditions arithmetic None place guide = around_one (record { before = []; behind = ruled T12 place (is_word guide) ∷ [] })
unary_conditions sort direction place guide =
    around_one (record { before = []; behind = ruled T12 place (takes sort guide) ∷ agrees direction place types.bool })

abbrev pub cast_conditions : Option Tau → Place → Tau → List (List Condition)
cast_conditions None place t = before_all (ruled T2 place false ∷ [])
cast_conditions (Some wanted) place t = around_one (record { before = []; behind = ruled T11 place (widens t wanted) ∷ [] })

-- those of one stage
abbrev pub or_no_conditions : Option (List Condition) → List Condition
or_no_conditions None = []
or_no_conditions (Some cs) = cs

abbrev pub at_stage : List (List Condition) → ℕ → List Condition
at_stage all n = or_no_conditions (slice_get all n)

module _ (functions : List Function) (vars : List Kinds) where
  -- the conditions of a node at its place, by how many of its parts are done
  abbrev pub stages : Site → Place → Shape Place → List (List Condition)
  stages s place (var i) =
      before_all (touch_condition vars place (record { path = s.path; observer = None }) (slice_get s.scope i) ++ agrees s.direction place (type_here functions s s.node))
  stages s place unit = before_all (agrees s.direction place types.unit)
  stages s place (bool b) = before_all (agrees s.direction place types.bool)
  stages s place (lit value) = before_all (literal_conditions s.direction place value)
  stages s place (fun f args) = before_all (argument_conditions vars (asked_by functions f) args ++ agrees s.direction place (mentioned functions f args))
  stages s place (op o (more x none)) = unary_conditions (sort_of o) s.direction place (type_here functions s x)
  stages s place (op o (more l (more r none))) =
      binary_conditions (sort_of o) s.direction place (cond (is_literal l) (type_here functions s r) (type_here functions s l))
  stages s place (op o ts) = []
  stages s place (app f x) =
      let t = type_here functions s f in
      around_two (record {
        before_first = [];
        before_second = ruled T4 (place_inside f) (is_arrow t) ∷ [];
        behind_both = agrees s.direction place (given_by t);
      })
  stages s place (lets binder e k) =
      around_two (record { before_first = []; before_second = []; behind_both = bound_conditions vars s 0 binder (type_here functions s e) })
  stages s place (let_bang observers binder e k) =
      let t = type_seen functions s observers e in
      around_two (record {
        before_first = observer_conditions vars s 0 observers;
        before_second = ruled K2 (place_inside e) (kinds vars t).escape ∷ [];
        behind_both = bound_conditions vars s 0 binder t;
      })
  stages s place (if_else c x y) =
      around_three (record { before_first = []; before_second = []; before_third = []; behind_all = branch_conditions vars s x y })
  stages s place (con name e) = before_all (constructor_conditions s.direction place name)
  stages s place (case_of e at binder x y) =
      let t = type_here functions s e in
      around_three (record {
        before_first = [];
        before_second = ruled T8 at.place (is_there (alternative_in at.name t)) ∷ (ruled T10 at.place (is_left (alternative_in at.name t)) ∷ []);
        before_third = bound_conditions vars s 0 binder (held (alternative_in at.name t));
        behind_all = bound_conditions vars s 1 at.place (with_part at.name true t) ++ branch_conditions vars s x y;
      })
  stages s place (esac at e) =
      let t = type_here functions s e in
      around_one (record {
        before = [];
        behind =
            ruled T8 at.place (is_there (alternative_in at.name t))
            ∷ (ruled T10 at.place (is_left (alternative_in at.name t))
            ∷ (ruled T9 at.place (is_last at.name t) ∷ agrees s.direction place (held (alternative_in at.name t))));
      })
  stages s place (struct fs) = before_all (record_conditions s.direction place fs)
  stages s place (member e at) =
      let t = type_here functions s e in
      around_one (record {
        before = [];
        behind =
            ruled T5 at.place (is_there (field_in at.name t))
            ∷ (ruled T6 at.place (is_left (field_in at.name t))
            ∷ (ruled K6 at.place (shares vars t) ∷ agrees s.direction place (held (field_in at.name t))));
      })
  stages s place (take_field e at rest binder k) =
      let t = type_here functions s e in
      around_two (record {
        before_first = [];
        before_second =
            ruled T5 at.place (is_there (field_in at.name t))
            ∷ (ruled T7 at.place (not (is_read_only t)) ∷ (ruled T6 at.place (is_left (field_in at.name t)) ∷ []));
        behind_both = bound_conditions vars s 0 rest (with_part at.name true t) ++ bound_conditions vars s 1 binder (held (field_in at.name t));
      })
  stages s place (put e at x) =
      let t = type_here functions s e in
      around_two (record {
        before_first = [];
        before_second =
            ruled T5 at.place (is_there (field_in at.name t))
            ∷ (ruled T7 at.place (not (is_read_only t)) ∷ (ruled K7 at.place (may_be_put_over vars (field_in at.name t)) ∷ []));
        behind_both = agrees s.direction place (with_part at.name false t);
      })
  stages s place (cast e) = cast_conditions s.direction place (type_here functions s e)
  stages s place (annot e a) = around_one (record { before = ruled T14 a.place (has_word_arrays a.ty) ∷ []; behind = agrees s.direction place a.ty })

  -- the limit on a node's own type stands behind all its other conditions, in a stage of its own
  abbrev pub size_condition : Site → Condition
  size_condition s = typed type_limit (place_inside s.node) (is_small_enough (plain_in functions (scope_types s) s.direction s.node))

  -- the conditions of a site after so many of its parts
  abbrev pub conditions : Site → ℕ → List Condition
  conditions s n =
      at_stage (stages s (place_inside s.node) (shape_inside s.node)) n
      ++ cond (nat_eq n (suc (length (parts functions s)))) (size_condition s ∷ []) []
