-- Where the nodes of a body stand: each has a path from the body down, the variables in scope with their types in plain
-- typing, and a direction. Nothing here knows of splits, marks or flags.
use Rattle.std.specs.Prelude.{ℕ, zero, suc, Bool, true, false, cond, List, [], ◌∷◌, map, Option, Some, None, slice_get}
use Rattle.cg_base.specs.declared.place.Place.{Place}
use Rattle.cg_base.specs.Types as types
use Rattle.cg_base.specs.Types.{Tau, Parts, part, fields}
use Rattle.cg_core.specs.declared.term.Seen.{Seen}
use Rattle.cg_core.specs.Kernels.{Function}
use Rattle.cg_core.specs.Terms.{Tree, term, Shape, op, app, lets, let_bang, if_else, con, case_of, esac, struct, member, take_field, put, cast, annot, none, more, Named, end, field}
use Rattle.cg_kinds.specs.Kinds.{bang}
use Rattle.cg_typing.specs.Contexts.{push, among}
use Rattle.cg_typing.specs.Operators.{Sort, arithmetic, logic, sort_of, checked_type}
use Rattle.cg_typing.specs.Parts.{taken_by, field_in, alternative_in, held, with_part}
use Rattle.cg_faults.specs.Plain.{plain}
use Rattle.cg_typing.specs.Rules.{is_literal, second_branch}

-- the way from the body down to a node: the numbers of the parts, in the order in which they are judged
abbrev pub Path : Type 0
Path = List ℕ

-- a variable: the argument, or the one that is bound at a node, of the several there by its number
pub data Variable : Type 0 where
  argument : Variable
  bound_at : Path → ℕ → Variable

-- a variable in scope, with its type by plain typing, and whether a `let!` observes it in whose first part this is
pub record Entry : Type 0 where
  pub variable : Variable
  pub ty : Tau
  pub observed : Bool

-- a node where it stands
pub record Site : Type 0 where
  pub path : Path
  pub scope : List Entry
  pub direction : Option Tau
  pub node : Tree Place

abbrev pub scope_types : Site → List Tau
scope_types s = map (λ e. e.ty) s.scope

-- entries of which some are observed, by their positions
abbrev pub observe : (ℕ → Bool) → List Entry → List Entry
observe test [] = []
observe test (e ∷ es) = cond (test zero) (record { variable = e.variable; ty = bang e.ty; observed = true }) e ∷ observe (λ i. test (suc i)) es

-- the scope with one variable more, bound at this site
abbrev pub binding : Site → List Entry → ℕ → Tau → List Entry
binding s scope number t = push scope (record { variable = bound_at s.path number; ty = t; observed = false })

-- part j, in the same scope and in another
abbrev pub part_in : Site → ℕ → List Entry → Option Tau → Tree Place → Site
part_in s j scope direction e = record { path = push s.path j; scope = scope; direction = direction; node = e }

abbrev pub part_at : Site → ℕ → Option Tau → Tree Place → Site
part_at s j direction e = part_in s j s.scope direction e

-- the guide of an operator is judged first, and then the other operand against its type
abbrev pub guided_parts : Site → Tree Place → Tau → Tree Place → List Site
guided_parts s guide t other = part_at s 0 None guide ∷ (part_at s 1 (Some t) other ∷ [])

abbrev pub in_order : Site → Option Tau → Tree Place → Tree Place → List Site
in_order s direction l r = part_at s 0 direction l ∷ (part_at s 1 direction r ∷ [])

-- the operands of an operator, of which the right one is the guide where the left one is a literal
abbrev pub operands : Sort → Option Tau → Bool → Site → Tree Place → Tree Place → Tau → Tau → List Site
operands logic direction literal s l r a b = in_order s (Some types.bool) l r
operands arithmetic (Some t) literal s l r a b = in_order s (Some t) l r
operands sort direction true s l r a b = guided_parts s r b l
operands sort direction false s l r a b = guided_parts s l a r

abbrev pub single_operand : Sort → Option Tau → Option Tau
single_operand logic direction = Some types.bool
single_operand arithmetic direction = direction
single_operand sort direction = None

-- against which type the next field of a record stands, and the fields behind it
abbrev pub next_part : Option Parts → Option Tau
next_part None = None
next_part (Some types.end) = None
next_part (Some (part name t taken ps)) = Some t

abbrev pub parts_behind : Option Parts → Option Parts
parts_behind None = None
parts_behind (Some types.end) = None
parts_behind (Some (part name t taken ps)) = Some ps

abbrev pub parts_against : Option Tau → Option Parts
parts_against (Some (fields ps sigil)) = Some ps
parts_against _ = None

abbrev pub field_parts : Site → ℕ → Option Parts → Named Place → List Site
field_parts s j against end = []
field_parts s j against (field name e fs) = part_at s j (next_part against) e ∷ field_parts s (suc j) (parts_behind against) fs

abbrev pub shape_inside : Tree Place → Shape Place
shape_inside (term place shape) = shape

abbrev pub place_inside : Tree Place → Place
place_inside (term place shape) = place

module _ (functions : List Function) where
  -- the type of a part in the scope of the site
  abbrev pub type_here : Site → Tree Place → Tau
  type_here s e = plain functions (scope_types s) e

  -- what a first part with observers has in scope, and its type
  abbrev pub seen_scope : Site → List Seen → List Entry
  seen_scope s observers = observe (λ i. among i observers) s.scope

  abbrev pub type_seen : Site → List Seen → Tree Place → Tau
  type_seen s observers e = plain functions (map (λ x. x.ty) (seen_scope s observers)) e

  -- the parts of a node, in the order in which they are judged
  abbrev pub parts_of : Site → Shape Place → List Site
  parts_of s (op o (more x none)) = part_at s 0 (single_operand (sort_of o) s.direction) x ∷ []
  parts_of s (op o (more l (more r none))) = operands (sort_of o) s.direction (is_literal l) s l r (type_here s l) (type_here s r)
  parts_of s (app f x) = part_at s 0 None f ∷ (part_at s 1 (Some (taken_by (type_here s f))) x ∷ [])
  parts_of s (lets binder e k) = part_at s 0 None e ∷ (part_in s 1 (binding s s.scope 0 (type_here s e)) s.direction k ∷ [])
  parts_of s (let_bang observers binder e k) =
      part_in s 0 (seen_scope s observers) None e ∷ (part_in s 1 (binding s s.scope 0 (type_seen s observers e)) s.direction k ∷ [])
  parts_of s (if_else c x y) =
      part_at s 0 (Some types.bool) c ∷ (part_at s 1 s.direction x ∷ (part_at s 2 (second_branch s.direction (type_here s x)) y ∷ []))
  parts_of s (con name e) = part_at s 0 (Some (held (alternative_in name (checked_type s.direction)))) e ∷ []
  parts_of s (case_of e at binder x y) =
      let t = type_here s e in
      let first = binding s s.scope 0 (held (alternative_in at.name t)) in
      let second = binding s s.scope 1 (with_part at.name true t) in
      part_at s 0 None e ∷ (part_in s 1 first s.direction x
      ∷ (part_in s 2 second (second_branch s.direction (plain functions (map (λ z. z.ty) first) x)) y ∷ []))
  parts_of s (esac at e) = part_at s 0 None e ∷ []
  parts_of s (struct fs) = field_parts s 0 (parts_against s.direction) fs
  parts_of s (member e at) = part_at s 0 None e ∷ []
  parts_of s (take_field e at rest binder k) =
      let t = type_here s e in
      part_at s 0 None e
      ∷ (part_in s 1 (binding s (binding s s.scope 0 (with_part at.name true t)) 1 (held (field_in at.name t))) s.direction k ∷ [])
  parts_of s (put e at x) = part_at s 0 None e ∷ (part_at s 1 (Some (held (field_in at.name (type_here s e)))) x ∷ [])
  parts_of s (cast e) = part_at s 0 None e ∷ []
  parts_of s (annot e a) = part_at s 0 (Some a.ty) e ∷ []
  parts_of s _ = []

  abbrev pub parts : Site → List Site
  parts s = parts_of s (shape_inside s.node)

  -- the site down a path
  abbrev pub down : Option Site → Path → Option Site
  down None path = None
  down (Some s) [] = Some s
  down (Some s) (j ∷ path) = down (slice_get (parts s) j) path
