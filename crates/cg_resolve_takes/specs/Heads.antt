-- The heads of types: what the type of the kernel is at its top, as far as it tells which fields may be taken.
use Rattle.std.specs.Prelude.{ℕ, zero, suc, Bool, ◌==◌, List, [], ◌∷◌, ◌++◌, Option, Some, None, slice_get, if◌then◌else◌}
use Rattle.cg_base.specs.Types.{Tau, var, seen, fields}
use Rattle.cg_core_def.specs.Lawful.{part_names}
use Rattle.cg_surface.specs.Written.{Written, Writtens, WrittenFields}
use Rattle.cg_surface.specs.Written as types
use Rattle.cg_resolve_def.specs.Declared.{is_among, is_variable, looked_up, plain_types}
use Rattle.cg_resolve_def.specs.Expand.{Bodies, component, position_of, types_length}

-- a record, with a test of which names are those of its fields; a parameter, observed or not, by position; or another type
pub data Head : Type 0 where
  record_of : (List ℕ → Bool) → Head
  parameter : ℕ → Head
  other : Head

abbrev pub top : Tau → Head
top (fields ps sigil) = record_of (is_among (part_names ps))
top (var n) = parameter n
top (seen n) = parameter n
top t = other

-- the test of the names of fields, where it is a record
abbrev pub fields_in : Head → Option (List ℕ → Bool)
fields_in (record_of test) = Some test
fields_in (parameter n) = None
fields_in other = None

-- of each name, whether it is a synonym, and then the head of its body
abbrev pub Heads : Type 0
Heads = List ℕ → Option Head

abbrev pub or_other : Option Head → Head
or_other None = other
or_other (Some h) = h

-- the fields of an argument, where there is one
abbrev pub or_none : Option (Option (List ℕ → Bool)) → Option (List ℕ → Bool)
or_none None = None
or_none (Some shape) = shape

-- a head, with these heads for its parameters
abbrev pub applied_head : Head → List Head → Head
applied_head (parameter i) args = or_other (slice_get args i)
applied_head (record_of test) args = record_of test
applied_head other args = other

-- the head of a type by its name, with these arguments, where this is its plain type and this the head of its body
abbrev pub named_head : Option Tau → Option Head → List Head → Head
named_head (Some t) known args = other
named_head None (Some h) args = applied_head h args
named_head None None args = other

-- the names of the components of a tuple of so many, and of written fields
unfoldable pub component_names : ℕ → List (List ℕ)
component_names zero = []
component_names (suc n) = component_names n ++ component n ∷ []

abbrev pub field_names : WrittenFields → List (List ℕ)
field_names types.no_fields = []
field_names (types.and_field fs at t) = field_names fs ++ at.name ∷ []

-- the head of a name's synonym, where it is one, and no type that is declared beforehand
abbrev pub unless_plain : Option Tau → Option Head → Option Head
unless_plain (Some t) head = None
unless_plain None head = head

abbrev pub synonym_head : Heads → List ℕ → Option Head
synonym_head heads n = if is_variable n then None else unless_plain (looked_up plain_types n) (heads n)

module _ (heads : Heads) (vars : List (List ℕ)) where
  -- the head of a type by its name, with arguments of these heads
  abbrev pub head_by_name : List ℕ → List Head → Head
  head_by_name n args = if is_variable n then parameter (position_of vars n) else named_head (looked_up plain_types n) (heads n) args

  -- the head of a written type, among type variables of these names
  abbrev mutual
    pub head_of : Written → Head
    head_of (types.named p n args) = head_by_name n (heads_of args)
    head_of (types.nothing p) = other
    head_of (types.tuple p ts) = record_of (is_among (component_names (types_length ts)))
    head_of (types.paren p t) = head_of t
    head_of (types.arrow p a b) = other
    head_of (types.fields p boxed fs) = record_of (is_among (field_names fs))
    head_of (types.variant p choices) = other
    head_of (types.bang p t) = head_of t
    head_of (types.take_some p t ns) = head_of t
    head_of (types.take_all p t q) = head_of t

    pub heads_of : Writtens → List Head
    heads_of types.no_types = []
    heads_of (types.and_type ts t) = heads_of ts ++ head_of t ∷ []

-- the fields of a written type, where it is a record: a type variable is none, wherever it stands
abbrev pub shape_of : Heads → Written → Option (List ℕ → Bool)
shape_of heads t = fields_in (head_of heads [] t)

-- the fields of a type by its name, with arguments of these heads; and those of the argument at this position
abbrev pub shape_by_name : Heads → List ℕ → List Head → Option (List ℕ → Bool)
shape_by_name heads n args = fields_in (head_by_name heads [] n args)

abbrev pub shape_at : List Head → Option ℕ → Option (List ℕ → Bool)
shape_at heads None = None
shape_at heads (Some i) = fields_in (or_other (slice_get heads i))

-- the fields at a position, where it is the one that is wanted; else those before
abbrev pub chosen : Option ℕ → ℕ → Option (List ℕ → Bool) → Option (List ℕ → Bool) → Option (List ℕ → Bool)
chosen None position before here = before
chosen (Some at) position before here = if at == position then here else before

-- which argument a type has the fields of, whose synonym has this head, and its fields, where these are those of that argument
abbrev pub wanted_by : Option Head → Option ℕ
wanted_by None = None
wanted_by (Some (parameter i)) = Some i
wanted_by (Some (record_of test)) = None
wanted_by (Some other) = None

abbrev pub with_head : Option Head → Option (List ℕ → Bool) → Option (List ℕ → Bool)
with_head None given = given
with_head (Some (parameter i)) given = given
with_head (Some (record_of test)) given = Some test
with_head (Some other) given = given

-- the heads of these bodies
abbrev pub head_of_body : Option Tau → Option Head
head_of_body None = None
head_of_body (Some t) = Some (top t)

abbrev pub tops : Bodies → Heads
tops known n = head_of_body (known n)
