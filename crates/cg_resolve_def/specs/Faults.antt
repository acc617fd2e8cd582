-- Where names are at fault, in reading order (docs/LANGUAGE.md, "Names"): N1 a name that isn't defined where it stands, N2 the later of
-- two, N4 a wrong number of type arguments.
use Rattle.std.specs.Prelude.{ℕ, ◌==◌, List, [], ◌∷◌, ◌++◌, map, length, codes, Option, Some, None, if◌then◌else◌}
use Rattle.cg_base.specs.declared.kind.Bound.{Bound}
use Rattle.cg_base.specs.declared.place.Place.{Place}
use Rattle.cg_base.specs.Places.{is_at}
use Rattle.cg_core.specs.declared.at.At.{At}
use Rattle.cg_surface.specs.Written.{Written, Writtens, WrittenFields, WrittenAlts}
use Rattle.cg_surface.specs.Written as types
use Rattle.cg_surface.specs.Patterns.{Pattern, Patterns, FieldPatterns}
use Rattle.cg_surface.specs.Patterns as patterns
use Rattle.cg_surface.specs.Exprs.{Expr, Exprs, FieldExprs, Binds, Alts}
use Rattle.cg_surface.specs.Exprs as exprs
use Rattle.cg_surface.specs.Programs.{Entry, synonym, abstract, signature, define}
use Rattle.cg_resolve_def.specs.Declared.{is_among, looked_up, is_variable, plain_types, type_arity, OfLibrary, library, OfProgram, function_named}
use Rattle.cg_resolve_def.specs.Expand.{types_length}

-- a fault at its place
pub data NameFault : Type 0 where
  unknown : Place → NameFault
  twice : Place → NameFault
  arguments : Place → NameFault

-- a name that stands among those before it
abbrev pub again : List (List ℕ) → Place → List ℕ → List NameFault
again before p n = if is_among before n then twice p ∷ [] else []

-- the faults of a field: the later of two of one name, and those of its value, in reading order. A field that is written alone
-- and its value stand at one place, and there an unknown name comes first.
abbrev pub field_with : List (List ℕ) → At → List NameFault → List NameFault
field_with before at [] = again before at.place at.name
field_with before at (unknown p ∷ later) = if is_at p at.place then unknown p ∷ again before at.place at.name ++ later else again before at.place at.name ++ unknown p ∷ later
field_with before at (twice p ∷ later) = again before at.place at.name ++ twice p ∷ later
field_with before at (arguments p ∷ later) = again before at.place at.name ++ arguments p ∷ later

-- names that have to be apart, behind those before them
abbrev pub twins : List (List ℕ) → List At → List NameFault
twins before [] = []
twins before (at ∷ ats) = again before at.place at.name ++ twins (at.name ∷ before) ats

abbrev pub names_of : List At → List (List ℕ)
names_of ats = map (λ at. at.name) ats

-- so many arguments, where there should be as many
abbrev pub counted : Place → ℕ → ℕ → List NameFault
counted p wanted given = if (given == wanted) then [] else arguments p ∷ []

-- what is declared before an item: types, signatures and definitions
pub record Before : Type 0 where
  pub types : List (List ℕ)
  pub signatures : List (List ℕ)
  pub definitions : List (List ℕ)

abbrev pub declared_with : Before → Entry → Before
declared_with before (synonym at params body) = record { types = at.name ∷ before.types; signatures = before.signatures; definitions = before.definitions }
declared_with before (abstract at params) = record { types = at.name ∷ before.types; signatures = before.signatures; definitions = before.definitions }
declared_with before (signature at vars places ty) = record { types = before.types; signatures = at.name ∷ before.signatures; definitions = before.definitions }
declared_with before (define at param body) = record { types = before.types; signatures = before.signatures; definitions = at.name ∷ before.definitions }

-- ---- parts that no program is asked for

-- of a type with so many arguments
abbrev pub type_name_faults : Place → ℕ → Option ℕ → List NameFault
type_name_faults p given None = unknown p ∷ []
type_name_faults p given (Some wanted) = counted p wanted given

-- the names of fields, and of alternatives
abbrev pub field_names : WrittenFields → List (List ℕ)
field_names types.no_fields = []
field_names (types.and_field fs at t) = at.name ∷ field_names fs

abbrev pub alt_names : WrittenAlts → List (List ℕ)
alt_names types.no_alts = []
alt_names (types.and_plain choices at) = at.name ∷ alt_names choices
alt_names (types.and_alt choices at t) = at.name ∷ alt_names choices

-- the variables of a pattern, in reading order
abbrev mutual
  pub variables : Pattern → List At
  variables (patterns.name p n) = record { place = p; name = n } ∷ []
  variables (patterns.any p) = []
  variables (patterns.unit p) = []
  variables (patterns.paren p x) = variables x
  variables (patterns.tuple p xs) = all_variables xs
  variables (patterns.fields p fs) = field_variables fs
  variables (patterns.take p n fs) = record { place = p; name = n } ∷ field_variables fs

  pub all_variables : Patterns → List At
  all_variables patterns.no_patterns = []
  all_variables (patterns.and_pattern xs x) = all_variables xs ++ variables x

  pub field_variables : FieldPatterns → List At
  field_variables patterns.no_fields = []
  field_variables (patterns.and_field fs at x) = field_variables fs ++ variables x

-- the names that a pattern binds
abbrev pub bound : Pattern → List (List ℕ)
bound x = names_of (variables x)

abbrev pub pattern_faults : Pattern → List NameFault
pattern_faults x = twins [] (variables x)

-- of a function with so many type arguments: one of the library, or else one of the program
abbrev pub user_faults : Place → ℕ → Option OfProgram → List NameFault
user_faults p given None = unknown p ∷ []
user_faults p given (Some f) = counted p (length f.vars) given

abbrev pub function_faults : Place → ℕ → Option OfLibrary → Option OfProgram → List NameFault
function_faults p given (Some f) user = counted p f.arity given
function_faults p given None user = user_faults p given user

-- of observed variables
abbrev pub seen_faults : List (List ℕ) → List At → List NameFault
seen_faults scope [] = []
seen_faults scope (at ∷ ats) = (if is_among scope at.name then [] else unknown at.place ∷ []) ++ seen_faults scope ats

-- the names of the fields of an unboxed record, and those that bindings bind
abbrev pub value_names : FieldExprs → List (List ℕ)
value_names exprs.no_fields = []
value_names (exprs.and_field fs at e) = at.name ∷ value_names fs

abbrev pub all_bound : Binds → List (List ℕ)
all_bound exprs.no_binds = []
all_bound (exprs.and_bind bs x e seen) = bound x ++ all_bound bs

-- type variables with their places
abbrev pub ats_of : List Bound → List Place → List At
ats_of [] places = []
ats_of (v ∷ vars) [] = []
ats_of (v ∷ vars) (p ∷ places) = record { place = p; name = v.name } ∷ ats_of vars places

abbrev pub var_names : List Bound → List (List ℕ)
var_names vars = map (λ v. v.name) vars

-- the type variables of the signature of a definition
abbrev pub vars_named : Option OfProgram → List (List ℕ)
vars_named None = []
vars_named (Some f) = var_names f.vars

-- a definition without a signature
abbrev pub unsigned : Place → Option OfProgram → List NameFault
unsigned p None = unknown p ∷ []
unsigned p (Some f) = []

-- ---- types, expressions and items of a program

module _ (entries : List Entry) where
  -- of a name, among the type variables of these names: a type variable has no arguments
  abbrev pub name_faults : List (List ℕ) → Place → List ℕ → ℕ → List NameFault
  name_faults vars p n given = if is_variable n then (if is_among vars n then counted p 0 given else unknown p ∷ []) else type_name_faults p given (type_arity entries n)

  module _ (vars : List (List ℕ)) where
    abbrev mutual
      pub type_faults : Written → List NameFault
      type_faults (types.named p n args) = name_faults vars p n (types_length args) ++ types_faults args
      type_faults (types.nothing p) = []
      type_faults (types.tuple p ts) = types_faults ts
      type_faults (types.paren p t) = type_faults t
      type_faults (types.arrow p a b) = type_faults a ++ type_faults b
      type_faults (types.fields p boxed fs) = fields_faults fs
      type_faults (types.variant p choices) = alts_faults choices
      type_faults (types.bang p t) = type_faults t
      type_faults (types.take_some p t ns) = type_faults t
      type_faults (types.take_all p t q) = type_faults t

      pub types_faults : Writtens → List NameFault
      types_faults types.no_types = []
      types_faults (types.and_type ts t) = types_faults ts ++ type_faults t

      pub fields_faults : WrittenFields → List NameFault
      fields_faults types.no_fields = []
      fields_faults (types.and_field fs at t) = fields_faults fs ++ again (field_names fs) at.place at.name ++ type_faults t

      pub alts_faults : WrittenAlts → List NameFault
      alts_faults types.no_alts = []
      alts_faults (types.and_plain choices at) = alts_faults choices ++ again (alt_names choices) at.place at.name
      alts_faults (types.and_alt choices at t) = alts_faults choices ++ again (alt_names choices) at.place at.name ++ type_faults t

  -- of a name, among these variables: a variable has no type arguments, and hides a function
  abbrev pub mention_faults : List (List ℕ) → Place → List ℕ → ℕ → List NameFault
  mention_faults scope p n given = if is_among scope n then counted p 0 given else function_faults p given (looked_up library n) (function_named entries n)

  module _ (vars : List (List ℕ)) where
    abbrev mutual
      pub expr_faults : List (List ℕ) → Expr → List NameFault
      expr_faults scope (exprs.name p n ts) = mention_faults scope p n (types_length ts) ++ types_faults vars ts
      expr_faults scope (exprs.number p v) = []
      expr_faults scope (exprs.bool p b) = []
      expr_faults scope (exprs.unit p) = []
      expr_faults scope (exprs.paren p a) = expr_faults scope a
      expr_faults scope (exprs.sig p a t) = expr_faults scope a ++ type_faults vars t
      expr_faults scope (exprs.tuple p es) = list_faults scope es
      expr_faults scope (exprs.fields p fs) = record_faults scope fs
      expr_faults scope (exprs.con p n) = []
      expr_faults scope (exprs.con_of p n a) = expr_faults scope a
      expr_faults scope (exprs.app p f a) = expr_faults scope f ++ expr_faults scope a
      expr_faults scope (exprs.member p a at) = expr_faults scope a
      expr_faults scope (exprs.put p a fs) = expr_faults scope a ++ put_faults scope fs
      expr_faults scope (exprs.unary p o a) = expr_faults scope a
      expr_faults scope (exprs.upcast p a) = expr_faults scope a
      expr_faults scope (exprs.binary p o a b) = expr_faults scope a ++ expr_faults scope b
      expr_faults scope (exprs.lets p bs b) = binds_faults scope bs ++ expr_faults (all_bound bs ++ scope) b
      expr_faults scope (exprs.if_else p c seen a b) = expr_faults scope c ++ seen_faults scope seen ++ expr_faults scope a ++ expr_faults scope b
      expr_faults scope (exprs.match_of p e seen choices) = expr_faults scope e ++ seen_faults scope seen ++ match_faults scope choices

      pub list_faults : List (List ℕ) → Exprs → List NameFault
      list_faults scope exprs.no_exprs = []
      list_faults scope (exprs.and_expr es e) = list_faults scope es ++ expr_faults scope e

      -- fields of a record are apart; those that are put needn't be
      pub record_faults : List (List ℕ) → FieldExprs → List NameFault
      record_faults scope exprs.no_fields = []
      record_faults scope (exprs.and_field fs at e) = record_faults scope fs ++ field_with (value_names fs) at (expr_faults scope e)

      pub put_faults : List (List ℕ) → FieldExprs → List NameFault
      put_faults scope exprs.no_fields = []
      put_faults scope (exprs.and_field fs at e) = put_faults scope fs ++ expr_faults scope e

      -- each binding is among those before it
      pub binds_faults : List (List ℕ) → Binds → List NameFault
      binds_faults scope exprs.no_binds = []
      binds_faults scope (exprs.and_bind bs x e seen) =
          binds_faults scope bs ++ pattern_faults x ++ expr_faults (all_bound bs ++ scope) e ++ seen_faults (all_bound bs ++ scope) seen

      pub match_faults : List (List ℕ) → Alts → List NameFault
      match_faults scope exprs.no_alts = []
      match_faults scope (exprs.and_alt choices p con x b) = match_faults scope choices ++ pattern_faults x ++ expr_faults (bound x ++ scope) b

  abbrev pub entry_faults : Before → Entry → List NameFault
  entry_faults before (synonym at params body) = again before.types at.place at.name ++ twins [] params ++ type_faults (names_of params) body
  entry_faults before (abstract at params) = again before.types at.place at.name ++ twins [] params
  entry_faults before (signature at vars places ty) = again before.signatures at.place at.name ++ twins [] (ats_of vars places) ++ type_faults (var_names vars) ty
  entry_faults before (define at param body) =
      unsigned at.place (function_named entries at.name) ++ again before.definitions at.place at.name ++ pattern_faults param
      ++ expr_faults (vars_named (function_named entries at.name)) (bound param) body

  abbrev pub faults_from : Before → List Entry → List NameFault
  faults_from before [] = []
  faults_from before (e ∷ later) = entry_faults before e ++ faults_from (declared_with before e) later

-- the names that are declared beforehand, as types and as functions
abbrev pub beforehand : Before
beforehand = record { types = codes "WordArray" ∷ map (λ line. line.0) plain_types; signatures = map (λ line. line.0) library; definitions = [] }

-- the faults of names of a program, in reading order
abbrev pub program_faults : List Entry → List NameFault
program_faults entries = faults_from entries beforehand entries
