-- No type of a node passes the limit exactly where none of the conditions that test it fails: of a node, just the last one does.
use Rattle.std.proofs.Common.{◌≡◌, ℕ, zero, suc, Bool, true, false, cond, IsTrue, Option, Some, None, List, [], ◌∷◌, ◌++◌, length, slice_get, refl, sym, ap, ◌∙◌, subst, nat_eq, eq-eqb}
use Rattle.std.specs.List.{AllByRecursion}
use Rattle.cg_base.proofs.Sequences.{get_last}
use Rattle.cg_base.specs.declared.kind.Kinds.{Kinds}
use Rattle.cg_base.specs.declared.place.Place.{Place}
use Rattle.cg_base.specs.Types.{Tau}
use Rattle.cg_core.specs.declared.term.Seen.{Seen}
use Rattle.cg_core.specs.Kernels.{Function, Body}
use Rattle.cg_core.specs.Terms.{Tree, Shape, var, unit, bool, lit, fun, op, app, lets, let_bang, if_else, con, case_of, esac, struct, member, take_field, put, cast, annot, none, more, Named, Arg}
use Rattle.cg_faults.specs.Conditions.{Condition, typed, touched, missed, unused, observed, Breaks, agrees, literal_conditions, constructor_conditions, record_conditions, asked_condition, argument_conditions, touch_condition, observer_conditions, scope_conditions, branch_conditions, binary_conditions, unary_conditions, cast_conditions, at_stage, stages, size_condition, conditions}
use Rattle.cg_faults.specs.Fails.{Moment, at_signature, at_node, at_end, Judged, root_of, site_conditions, FailsInSignature, FailsInBody, FailsInFunction, FailsAt, IsTypeWithin, AreTypesIn, AreTypesWithin}
use Rattle.cg_faults.specs.Rule.{Test, rule, type_limit}
use Rattle.cg_faults.specs.Sites.{Path, argument, Entry, Site, down, parts, shape_inside, place_inside}
use Rattle.cg_faults.specs.Touches.{Touch}
use Rattle.cg_typing.specs.Accepted.{kinds_of_vars}
use Rattle.cg_typing.specs.Contexts.{shares}
use Rattle.cg_typing.specs.Functions.{Asked, these, a_cell, an_element, nothing, next_asked, later_asked}
use Rattle.cg_typing.specs.Operators.{Sort, arithmetic, equality, order, logic, sort_of}
use Rattle.cg_typing.specs.Parts.{taken_by}

-- ---- which conditions test a rule

-- a condition tests a rule, and not the limit
abbrev IsOfRule : Condition → Type 0
IsOfRule (typed type_limit place holds) = ⊥
IsOfRule c = Unit {0}

abbrev OfRules : List Condition → Type 0
OfRules = AllByRecursion IsOfRule

abbrev StagesOfRules : List (List Condition) → Type 0
StagesOfRules = AllByRecursion OfRules

rules_append : (cs ds : List Condition) → OfRules cs → OfRules ds → OfRules (cs ++ ds)
rules_append [] ds h k = k
rules_append (c ∷ cs) ds h k = (h.0, rules_append cs ds h.1 k)

agrees_rules : (direction : Option Tau) (place : Place) (t : Tau) → OfRules (agrees direction place t)
agrees_rules None place t = tt
agrees_rules (Some wanted) place t = (tt, tt)

literal_rules : (direction : Option Tau) (place : Place) (value : Option ℕ) → OfRules (literal_conditions direction place value)
literal_rules None place value = (tt, tt)
literal_rules (Some t) place value = (tt, (tt, tt))

constructor_rules : (direction : Option Tau) (place : Place) (name : List ℕ) → OfRules (constructor_conditions direction place name)
constructor_rules None place name = (tt, tt)
constructor_rules (Some t) place name = (tt, (tt, tt))

record_rules : (direction : Option Tau) (place : Place) (fs : Named Place) → OfRules (record_conditions direction place fs)
record_rules None place fs = tt
record_rules (Some t) place fs = (tt, tt)

touch_rules : (vars : List Kinds) (place : Place) (touch : Touch) (e : Option Entry) → OfRules (touch_condition vars place touch e)
touch_rules vars place touch None = tt
touch_rules vars place touch (Some e) = go e.observed
  where
    go : (q : Bool) → OfRules (cond q [] (touched place (shares vars e.ty) e.variable touch ∷ []))
    go true = tt
    go false = (tt, tt)

branch_rules : (vars : List Kinds) (s : Site) (a b : Tree Place) (es : List Entry) → OfRules (branch_conditions vars (record { path = s.path; scope = es; direction = s.direction; node = s.node }) a b)
branch_rules vars s a b [] = tt
branch_rules vars s a b (e ∷ es) = (tt, (tt, branch_rules vars s a b es))

observer_rules : (vars : List Kinds) (s : Site) (n : ℕ) (os : List Seen) → OfRules (observer_conditions vars s n os)
observer_rules vars s n [] = tt
observer_rules vars s n (o ∷ os) =
    rules_append (touch_condition vars o.place (record { path = s.path; observer = Some n }) (slice_get s.scope o.var)) (observer_conditions vars s (suc n) os)
    (touch_rules vars o.place (record { path = s.path; observer = Some n }) (slice_get s.scope o.var)) (observer_rules vars s (suc n) os)

asked_rules : (vars : List Kinds) (asked : Asked) (place : Place) (t : Tau) → OfRules (asked_condition vars asked place t)
asked_rules vars (these wanted) place t = (tt, tt)
asked_rules vars a_cell place t = (tt, tt)
asked_rules vars an_element place t = (tt, tt)
asked_rules vars nothing place t = tt

argument_rules : (vars : List Kinds) (asked : List Asked) (args : List Arg) → OfRules (argument_conditions vars asked args)
argument_rules vars asked [] = tt
argument_rules vars asked (a ∷ args) = (
  tt,
  rules_append (asked_condition vars (next_asked asked) a.place a.ty) (argument_conditions vars (later_asked asked) args)
      (asked_rules vars (next_asked asked) a.place a.ty) (argument_rules vars (later_asked asked) args),
)

binary_rules : (sort : Sort) (direction : Option Tau) (place : Place) (guide : Tau) → StagesOfRules (binary_conditions sort direction place guide)
binary_rules logic direction place guide = (tt, (tt, (agrees_rules direction place _, tt)))
binary_rules arithmetic (Some t) place guide = ((tt, tt), (tt, (tt, tt)))
binary_rules arithmetic None place guide = (tt, ((tt, tt), (tt, tt)))
binary_rules equality direction place guide = (tt, ((tt, tt), (agrees_rules direction place _, tt)))
binary_rules order direction place guide = (tt, ((tt, tt), (agrees_rules direction place _, tt)))

unary_rules : (sort : Sort) (direction : Option Tau) (place : Place) (guide : Tau) → StagesOfRules (unary_conditions sort direction place guide)
unary_rules logic direction place guide = (tt, (agrees_rules direction place _, tt))
unary_rules arithmetic (Some t) place guide = ((tt, tt), (tt, tt))
unary_rules arithmetic None place guide = (tt, ((tt, tt), tt))
unary_rules equality direction place guide = (tt, ((tt, agrees_rules direction place _), tt))
unary_rules order direction place guide = (tt, ((tt, agrees_rules direction place _), tt))

cast_rules : (direction : Option Tau) (place : Place) (t : Tau) → StagesOfRules (cast_conditions direction place t)
cast_rules None place t = ((tt, tt), tt)
cast_rules (Some wanted) place t = (tt, ((tt, tt), tt))

module _ (functions : List Function) (vars : List Kinds) where
  -- but for the last condition of a node, all test rules
  stages_rules : (s : Site) (place : Place) (shape : Shape Place) → StagesOfRules (stages functions vars s place shape)
  stages_rules s place (var i) = (rules_append _ _ (touch_rules vars place _ (slice_get s.scope i)) (agrees_rules s.direction place _), tt)
  stages_rules s place unit = (agrees_rules s.direction place _, tt)
  stages_rules s place (bool b) = (agrees_rules s.direction place _, tt)
  stages_rules s place (lit value) = (literal_rules s.direction place value, tt)
  stages_rules s place (fun f args) = (rules_append _ _ (argument_rules vars _ args) (agrees_rules s.direction place _), tt)
  stages_rules s place (op o none) = tt
  stages_rules s place (op o (more x none)) = unary_rules (sort_of o) s.direction place _
  stages_rules s place (op o (more l (more r none))) = binary_rules (sort_of o) s.direction place _
  stages_rules s place (op o (more l (more r (more x xs)))) = tt
  stages_rules s place (app f x) = (tt, ((tt, tt), (agrees_rules s.direction place _, tt)))
  stages_rules s place (lets binder e k) = (tt, (tt, ((tt, (tt, tt)), tt)))
  stages_rules s place (let_bang observers binder e k) = (observer_rules vars s 0 observers, ((tt, tt), ((tt, (tt, tt)), tt)))
  stages_rules s place (if_else c x y) = (tt, (tt, (tt, (branch_rules vars s x y s.scope, tt))))
  stages_rules s place (con name e) = (constructor_rules s.direction place name, tt)
  stages_rules s place (case_of e at binder x y) = (tt, ((tt, (tt, tt)), ((tt, (tt, tt)), ((tt, (tt, branch_rules vars s x y s.scope)), tt))))
  stages_rules s place (esac at e) = (tt, ((tt, (tt, (tt, agrees_rules s.direction place _))), tt))
  stages_rules s place (struct fs) = (record_rules s.direction place fs, tt)
  stages_rules s place (member e at) = (tt, ((tt, (tt, (tt, agrees_rules s.direction place _))), tt))
  stages_rules s place (take_field e at rest binder k) = (tt, ((tt, (tt, (tt, tt))), ((tt, (tt, (tt, (tt, tt)))), tt)))
  stages_rules s place (put e at x) = (tt, ((tt, (tt, (tt, tt))), (agrees_rules s.direction place _, tt)))
  stages_rules s place (cast e) = cast_rules s.direction place _
  stages_rules s place (annot e a) = ((tt, tt), (agrees_rules s.direction place _, tt))

stage_rules : (all : List (List Condition)) (n : ℕ) → StagesOfRules all → OfRules (at_stage all n)
stage_rules [] n h = tt
stage_rules (cs ∷ all) zero h = h.0
stage_rules (cs ∷ all) (suc n) h = stage_rules all n h.1

-- ---- where a condition fails by the limit

module _ (functions : List Function) (root : Site) where
  -- that of a rule doesn't
  no_limit : (c : Condition) (place : Place) → IsOfRule c → Breaks functions root c type_limit place → ⊥
  no_limit (typed (rule r) at holds) place h b = absurd (let e = b.0 in cc)
  no_limit (typed type_limit at holds) place h b = h
  no_limit (touched at shared x touch) place h b = absurd (let e = b.0 in cc)
  no_limit (missed at dropped x one other) place h b = absurd (let e = b.0 in cc)
  no_limit (unused at dropped x) place h b = absurd (let e = b.0 in cc)
  no_limit (observed dropped x) place h b = absurd (let e = b.0 in cc)

  none_limits : (cs : List Condition) (n : ℕ) (c : Condition) (place : Place) → OfRules cs → slice_get cs n ≡ Some c → Breaks functions root c type_limit place → ⊥
  none_limits [] n c place h at b = absurd (cc)
  none_limits (d ∷ cs) zero c place h at b = let e : d ≡ c = cc in no_limit d place h.0 (subst (λ c. Breaks functions root c type_limit place) (sym e) b)
  none_limits (d ∷ cs) (suc n) c place h at b = none_limits cs n c place h.1 at b

  -- of these conditions and then the one on size, that one alone
  last_limits : (s : Site) (vars : List Kinds) (cs : List Condition) (q : Bool) (n : ℕ) (c : Condition) (place : Place) → OfRules cs
      → slice_get (cs ++ cond q (size_condition functions vars s ∷ []) []) n ≡ Some c → Breaks functions root c type_limit place → IsTypeWithin functions s → ⊥
  last_limits s vars [] true zero c place h at b within =
      let e : size_condition functions vars s ≡ c = cc in
      let z = subst (λ c. Breaks functions root c type_limit place) (sym e) b in let q = z.2 in absurd (cc)
  last_limits s vars [] true (suc n) c place h at b within = absurd (cc)
  last_limits s vars [] false n c place h at b within = absurd (cc)
  last_limits s vars (d ∷ cs) q zero c place h at b within = let e : d ≡ c = cc in no_limit d place h.0 (subst (λ c. Breaks functions root c type_limit place) (sym e) b)
  last_limits s vars (d ∷ cs) q (suc n) c place h at b within = last_limits s vars cs q n c place h.1 at b within

module _ (functions : List Function) where
  site_limits : (f : Function) (body : Body) (path : Path) (o : Option Site) (n number : ℕ) (c : Condition) (place : Place) → AreTypesIn functions f body
      → down functions (Some (root_of f body)) path ≡ o → slice_get (site_conditions functions f o n) number ≡ Some c → Breaks functions (root_of f body) c type_limit place → ⊥
  site_limits f body path None n number c place within e at b = absurd (cc)
  site_limits f body path (Some s) n number c place within e at b =
      last_limits functions (root_of f body) s (kinds_of_vars f) (at_stage (stages functions (kinds_of_vars f) s (place_inside s.node) (shape_inside s.node)) n)
      (nat_eq n (suc (length (parts functions s)))) number c place
      (stage_rules (stages functions (kinds_of_vars f) s (place_inside s.node) (shape_inside s.node)) n
      (stages_rules functions (kinds_of_vars f) s (place_inside s.node) (shape_inside s.node))) at b (within path s e)

  body_limits : (f : Function) (body : Body) (moment : Moment) (number : ℕ) (place : Place) → AreTypesIn functions f body → FailsInBody functions f (Some body) moment number type_limit place → ⊥
  body_limits f body at_signature number place within b = let e = b.1 in absurd (cc)
  body_limits f body (at_node path n) number place within b =
      site_limits f body path (down functions (Some (root_of f body)) path) n number b.0 place within refl b.1 b.2
  body_limits f body at_end number place within b =
      none_limits functions (root_of f body) (scope_conditions (kinds_of_vars f) body.param (taken_by f.ty.ty) argument) number b.0 place (tt, (tt, tt)) b.1 b.2

  signature_limits : (f : Function) (number : ℕ) (place : Place) → FailsInSignature functions f number type_limit place → ⊥
  signature_limits f zero place b = let e = b.is in absurd (cc)
  signature_limits f (suc zero) place b = let e = b.is in absurd (cc)
  signature_limits f (suc (suc n)) place b = let e = b.is in absurd (cc)

  bodies_limits : (f : Function) (o : Option Body) (moment : Moment) (number : ℕ) (place : Place) → ((body : Body) → o ≡ Some body → AreTypesIn functions f body)
      → FailsInBody functions f o moment number type_limit place → ⊥
  bodies_limits f None moment number place within b = b
  bodies_limits f (Some body) moment number place within b = body_limits f body moment number place (within body refl) b

  function_limits : (f : Function) (moment : Moment) (number : ℕ) (place : Place) → ((body : Body) → f.body ≡ Some body → AreTypesIn functions f body)
      → FailsInFunction functions f moment number type_limit place → ⊥
  function_limits f at_signature number place within b = signature_limits f number place b
  function_limits f (at_node path n) number place within b = bodies_limits f f.body (at_node path n) number place within b
  function_limits f at_end number place within b = bodies_limits f f.body at_end number place within b

  -- where all types are within the limit, nothing fails by it
  pub nothing_limits : AreTypesWithin functions → (judged : Judged) (place : Place) → FailsAt functions judged type_limit place → ⊥
  nothing_limits within judged place b =
      function_limits b.function judged.moment judged.number place (λ body has. within judged.fun b.function body b.is has) b.fails

  -- ---- and back

  -- the last condition of a node is there
  size_stands : (s : Site) (vars : List Kinds) (cs : List Condition) (q : Bool) → q ≡ true → slice_get (cs ++ cond q (size_condition functions vars s ∷ []) []) (length cs) ≡ Some (size_condition functions vars s)
  size_stands s vars cs true e = get_last cs (size_condition functions vars s)
  size_stands s vars cs false e = absurd (cc)

  module _ (nothing : (judged : Judged) (test : Test) (place : Place) → FailsAt functions judged test place → ⊥) where
    -- so where nothing fails the type of each node is within the limit
    within_here : (i : ℕ) (f : Function) (body : Body) (path : Path) (s : Site) (small : Bool) → slice_get functions i ≡ Some f → f.body ≡ Some body
        → down functions (Some (root_of f body)) path ≡ Some s → size_condition functions (kinds_of_vars f) s ≡ typed type_limit (place_inside s.node) small → IsTrue small
    within_here i f body path s true at has stands is = refl
    within_here i f body path s false at has stands is =
        let n = suc (length (parts functions s)) in
        let cs = at_stage (stages functions (kinds_of_vars f) s (place_inside s.node) (shape_inside s.node)) n in
        let there = size_stands s (kinds_of_vars f) cs (nat_eq n n) (eq-eqb n n refl) in
        let fails : FailsInBody functions f (Some body) (at_node path n) (length cs) type_limit (place_inside s.node) =
        (typed type_limit (place_inside s.node) false, subst (λ o. slice_get (site_conditions functions f o n) (length cs) ≡ Some (typed type_limit (place_inside s.node) false)) (sym stands) (there ∙ ap (λ c. Some c) is), (refl, refl, refl)) in
        absurd (nothing (record { fun = i; moment = at_node path n; number = length cs }) type_limit (place_inside s.node)
        (record { function = f; is = at; fails = subst (λ o. FailsInBody functions f o (at_node path n) (length cs) type_limit (place_inside s.node)) (sym has) fails }))

    pub types_within : AreTypesWithin functions
    types_within i f body at has path s stands = within_here i f body path s _ at has stands refl
