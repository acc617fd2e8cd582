-- Where fields are taken that aren't there (N5), and how large written things are (docs/LANGUAGE.md, "Synonyms" and "Limits").
use Rattle.std.specs.Prelude.{ℕ, ◌+◌, max, List, [], ◌∷◌, ◌++◌, map, if◌then◌else◌}
use Rattle.cg_base.specs.declared.place.Place.{Place}
use Rattle.cg_base.specs.Types as kernel
use Rattle.cg_base.specs.Types.{Tau, var, unit, word, bool, arrow, abs, variant, fields, Taus, none, more, Parts, end, part}
use Rattle.cg_core.specs.declared.at.At.{At}
use Rattle.cg_core_def.specs.Lawful.{part_names}
use Rattle.cg_surface.specs.Written.{Written, Writtens, WrittenFields, WrittenAlts}
use Rattle.cg_surface.specs.Written as types
use Rattle.cg_surface.specs.Patterns.{Pattern, Patterns, FieldPatterns}
use Rattle.cg_surface.specs.Patterns as patterns
use Rattle.cg_surface.specs.Exprs.{Expr, Exprs, FieldExprs, Binds, Alts}
use Rattle.cg_surface.specs.Exprs as exprs
use Rattle.cg_surface.specs.Programs.{Entry, synonym, abstract, signature, define}
use Rattle.cg_resolve_def.specs.Declared.{is_among, function_named}
use Rattle.cg_resolve_def.specs.Expand.{Bodies, bodies, expanded, types_length}
use Rattle.cg_resolve_def.specs.Faults.{names_of, var_names, vars_named}

-- ---- N5

-- the places of names that are no fields of a type, and that of the word `take` before `..` where it is no record
abbrev pub not_there : List At → List (List ℕ) → List Place
not_there [] names = []
not_there (at ∷ ats) names = (if is_among names at.name then [] else at.place ∷ []) ++ not_there ats names

abbrev pub some_missing : List At → Tau → List Place
some_missing ats (fields ps sigil) = not_there ats (part_names ps)
some_missing ats t = map (λ at. at.place) ats

abbrev pub all_missing : Place → Tau → List Place
all_missing p (fields ps sigil) = []
all_missing p t = p ∷ []

-- ---- sizes

-- how many nodes a type of the kernel has
abbrev mutual
  pub nodes : Tau → ℕ
  nodes (var n) = 1
  nodes (kernel.seen n) = 1
  nodes unit = 1
  nodes (word w) = 1
  nodes bool = 1
  nodes (arrow a b) = nodes a + nodes b + 1
  nodes (abs n ts sigil) = nodes_all ts + 1
  nodes (variant ps) = nodes_parts ps + 1
  nodes (fields ps sigil) = nodes_parts ps + 1

  pub nodes_all : Taus → ℕ
  nodes_all none = 0
  nodes_all (more t ts) = nodes t + nodes_all ts

  pub nodes_parts : Parts → ℕ
  nodes_parts end = 0
  nodes_parts (part n t taken ps) = nodes t + nodes_parts ps

-- what of a program is asked of its types and its lists, gathered over all that is written: a list of places, or a number
abbrev pub fields_length : WrittenFields → ℕ
fields_length types.no_fields = 0
fields_length (types.and_field fs at t) = fields_length fs + 1

abbrev pub alts_length : WrittenAlts → ℕ
alts_length types.no_alts = 0
alts_length (types.and_plain choices at) = alts_length choices + 1
alts_length (types.and_alt choices at t) = alts_length choices + 1

module _ (known : Bodies) (vars : List (List ℕ)) where
  -- the places of N5 in a type, in reading order
  abbrev mutual
    pub take_faults : Written → List Place
    take_faults (types.named p n args) = takes_faults args
    take_faults (types.nothing p) = []
    take_faults (types.tuple p ts) = takes_faults ts
    take_faults (types.paren p t) = take_faults t
    take_faults (types.arrow p a b) = take_faults a ++ take_faults b
    take_faults (types.fields p boxed fs) = fields_takes fs
    take_faults (types.variant p choices) = alts_takes choices
    take_faults (types.bang p t) = take_faults t
    take_faults (types.take_some p t ns) = take_faults t ++ some_missing ns (expanded known vars t)
    take_faults (types.take_all p t q) = take_faults t ++ all_missing q (expanded known vars t)

    pub takes_faults : Writtens → List Place
    takes_faults types.no_types = []
    takes_faults (types.and_type ts t) = takes_faults ts ++ take_faults t

    pub fields_takes : WrittenFields → List Place
    fields_takes types.no_fields = []
    fields_takes (types.and_field fs at t) = fields_takes fs ++ take_faults t

    pub alts_takes : WrittenAlts → List Place
    alts_takes types.no_alts = []
    alts_takes (types.and_plain choices at) = alts_takes choices
    alts_takes (types.and_alt choices at t) = alts_takes choices ++ take_faults t

  -- the size of the largest type that is written in a type, itself among them
  abbrev mutual
    pub largest : Written → ℕ
    largest (types.named p n args) = max (nodes (expanded known vars (types.named p n args))) (largest_of args)
    largest (types.nothing p) = 1
    largest (types.tuple p ts) = max (nodes (expanded known vars (types.tuple p ts))) (largest_of ts)
    largest (types.paren p t) = largest t
    largest (types.arrow p a b) = max (nodes (expanded known vars (types.arrow p a b))) (max (largest a) (largest b))
    largest (types.fields p boxed fs) = max (nodes (expanded known vars (types.fields p boxed fs))) (largest_field fs)
    largest (types.variant p choices) = max (nodes (expanded known vars (types.variant p choices))) (largest_alt choices)
    largest (types.bang p t) = largest t
    largest (types.take_some p t ns) = largest t
    largest (types.take_all p t q) = largest t

    pub largest_of : Writtens → ℕ
    largest_of types.no_types = 0
    largest_of (types.and_type ts t) = max (largest_of ts) (largest t)

    pub largest_field : WrittenFields → ℕ
    largest_field types.no_fields = 0
    largest_field (types.and_field fs at t) = max (largest_field fs) (largest t)

    pub largest_alt : WrittenAlts → ℕ
    largest_alt types.no_alts = 0
    largest_alt (types.and_plain choices at) = largest_alt choices
    largest_alt (types.and_alt choices at t) = max (largest_alt choices) (largest t)

-- the most parts of one record type, tuple or variant type in a type
abbrev mutual
  pub widest : Written → ℕ
  widest (types.named p n args) = widest_of args
  widest (types.nothing p) = 0
  widest (types.tuple p ts) = max (types_length ts) (widest_of ts)
  widest (types.paren p t) = widest t
  widest (types.arrow p a b) = max (widest a) (widest b)
  widest (types.fields p boxed fs) = max (fields_length fs) (widest_field fs)
  widest (types.variant p choices) = max (alts_length choices) (widest_alt choices)
  widest (types.bang p t) = widest t
  widest (types.take_some p t ns) = widest t
  widest (types.take_all p t q) = widest t

  pub widest_of : Writtens → ℕ
  widest_of types.no_types = 0
  widest_of (types.and_type ts t) = max (widest_of ts) (widest t)

  pub widest_field : WrittenFields → ℕ
  widest_field types.no_fields = 0
  widest_field (types.and_field fs at t) = max (widest_field fs) (widest t)

  pub widest_alt : WrittenAlts → ℕ
  widest_alt types.no_alts = 0
  widest_alt (types.and_plain choices at) = widest_alt choices
  widest_alt (types.and_alt choices at t) = max (widest_alt choices) (widest t)

-- ---- over patterns, expressions and items

-- the most components of one tuple in a pattern
abbrev pub patterns_length : Patterns → ℕ
patterns_length patterns.no_patterns = 0
patterns_length (patterns.and_pattern xs x) = patterns_length xs + 1

abbrev mutual
  pub widest_pattern : Pattern → ℕ
  widest_pattern (patterns.name p n) = 0
  widest_pattern (patterns.any p) = 0
  widest_pattern (patterns.unit p) = 0
  widest_pattern (patterns.paren p x) = widest_pattern x
  widest_pattern (patterns.tuple p xs) = max (patterns_length xs) (widest_patterns xs)
  widest_pattern (patterns.fields p fs) = widest_fields fs
  widest_pattern (patterns.take p n fs) = widest_fields fs

  pub widest_patterns : Patterns → ℕ
  widest_patterns patterns.no_patterns = 0
  widest_patterns (patterns.and_pattern xs x) = max (widest_patterns xs) (widest_pattern x)

  pub widest_fields : FieldPatterns → ℕ
  widest_fields patterns.no_fields = 0
  widest_fields (patterns.and_field fs at x) = max (widest_fields fs) (widest_pattern x)

-- the types that are written in an expression, in reading order; and the most parts of one tuple, record or type in it
abbrev pub exprs_length : Exprs → ℕ
exprs_length exprs.no_exprs = 0
exprs_length (exprs.and_expr es e) = exprs_length es + 1

abbrev pub values_length : FieldExprs → ℕ
values_length exprs.no_fields = 0
values_length (exprs.and_field fs at e) = values_length fs + 1

abbrev pub listed : Writtens → List Written
listed types.no_types = []
listed (types.and_type ts t) = listed ts ++ t ∷ []

abbrev mutual
  pub types_in : Expr → List Written
  types_in (exprs.name p n ts) = listed ts
  types_in (exprs.number p v) = []
  types_in (exprs.bool p b) = []
  types_in (exprs.unit p) = []
  types_in (exprs.paren p a) = types_in a
  types_in (exprs.sig p a t) = types_in a ++ t ∷ []
  types_in (exprs.tuple p es) = types_in_list es
  types_in (exprs.fields p fs) = types_in_fields fs
  types_in (exprs.con p n) = []
  types_in (exprs.con_of p n a) = types_in a
  types_in (exprs.app p f a) = types_in f ++ types_in a
  types_in (exprs.member p a at) = types_in a
  types_in (exprs.put p a fs) = types_in a ++ types_in_fields fs
  types_in (exprs.unary p o a) = types_in a
  types_in (exprs.upcast p a) = types_in a
  types_in (exprs.binary p o a b) = types_in a ++ types_in b
  types_in (exprs.lets p bs b) = types_in_binds bs ++ types_in b
  types_in (exprs.if_else p c seen a b) = types_in c ++ types_in a ++ types_in b
  types_in (exprs.match_of p e seen choices) = types_in e ++ types_in_alts choices

  pub types_in_list : Exprs → List Written
  types_in_list exprs.no_exprs = []
  types_in_list (exprs.and_expr es e) = types_in_list es ++ types_in e

  pub types_in_fields : FieldExprs → List Written
  types_in_fields exprs.no_fields = []
  types_in_fields (exprs.and_field fs at e) = types_in_fields fs ++ types_in e

  pub types_in_binds : Binds → List Written
  types_in_binds exprs.no_binds = []
  types_in_binds (exprs.and_bind bs x e seen) = types_in_binds bs ++ types_in e

  pub types_in_alts : Alts → List Written
  types_in_alts exprs.no_alts = []
  types_in_alts (exprs.and_alt choices p con x b) = types_in_alts choices ++ types_in b

abbrev mutual
  pub widest_expr : Expr → ℕ
  widest_expr (exprs.name p n ts) = widest_of ts
  widest_expr (exprs.number p v) = 0
  widest_expr (exprs.bool p b) = 0
  widest_expr (exprs.unit p) = 0
  widest_expr (exprs.paren p a) = widest_expr a
  widest_expr (exprs.sig p a t) = max (widest_expr a) (widest t)
  widest_expr (exprs.tuple p es) = max (exprs_length es) (widest_list es)
  widest_expr (exprs.fields p fs) = max (values_length fs) (widest_values fs)
  widest_expr (exprs.con p n) = 0
  widest_expr (exprs.con_of p n a) = widest_expr a
  widest_expr (exprs.app p f a) = max (widest_expr f) (widest_expr a)
  widest_expr (exprs.member p a at) = widest_expr a
  widest_expr (exprs.put p a fs) = max (widest_expr a) (widest_values fs)
  widest_expr (exprs.unary p o a) = widest_expr a
  widest_expr (exprs.upcast p a) = widest_expr a
  widest_expr (exprs.binary p o a b) = max (widest_expr a) (widest_expr b)
  widest_expr (exprs.lets p bs b) = max (widest_binds bs) (widest_expr b)
  widest_expr (exprs.if_else p c seen a b) = max (widest_expr c) (max (widest_expr a) (widest_expr b))
  widest_expr (exprs.match_of p e seen choices) = max (widest_expr e) (widest_alts choices)

  pub widest_list : Exprs → ℕ
  widest_list exprs.no_exprs = 0
  widest_list (exprs.and_expr es e) = max (widest_list es) (widest_expr e)

  pub widest_values : FieldExprs → ℕ
  widest_values exprs.no_fields = 0
  widest_values (exprs.and_field fs at e) = max (widest_values fs) (widest_expr e)

  pub widest_binds : Binds → ℕ
  widest_binds exprs.no_binds = 0
  widest_binds (exprs.and_bind bs x e seen) = max (widest_binds bs) (max (widest_pattern x) (widest_expr e))

  pub widest_alts : Alts → ℕ
  widest_alts exprs.no_alts = 0
  widest_alts (exprs.and_alt choices p con x b) = max (widest_alts choices) (max (widest_pattern x) (widest_expr b))

-- a type that stands in no other, and the type variables that it may have
pub record Alone : Type 0 where
  pub vars : List (List ℕ)
  pub ty : Written

abbrev pub with_vars : List (List ℕ) → Written → Alone
with_vars vars t = record { vars = vars; ty = t }

-- all of them, in reading order
abbrev pub written_in : List Entry → Entry → List Alone
written_in entries (synonym at params body) = with_vars (names_of params) body ∷ []
written_in entries (abstract at params) = []
written_in entries (signature at vars places ty) = with_vars (var_names vars) ty ∷ []
written_in entries (define at param body) = map (with_vars (vars_named (function_named entries at.name))) (types_in body)

abbrev pub written_from : List Entry → List Entry → List Alone
written_from entries [] = []
written_from entries (e ∷ later) = written_in entries e ++ written_from entries later

-- the places of N5 of a program, in reading order
abbrev pub missing_from : Bodies → List Alone → List Place
missing_from known [] = []
missing_from known (t ∷ ts) = take_faults known t.vars t.ty ++ missing_from known ts

abbrev pub missing_fields : List Entry → List Place
missing_fields entries = missing_from (bodies entries) (written_from entries entries)

-- the size of its largest written type
abbrev pub largest_from : Bodies → List Alone → ℕ
largest_from known [] = 0
largest_from known (t ∷ ts) = max (largest known t.vars t.ty) (largest_from known ts)

abbrev pub largest_type : List Entry → ℕ
largest_type entries = largest_from (bodies entries) (written_from entries entries)

-- the most parts of one written thing
abbrev pub widest_entry : Entry → ℕ
widest_entry (synonym at params body) = widest body
widest_entry (abstract at params) = 0
widest_entry (signature at vars places ty) = widest ty
widest_entry (define at param body) = max (widest_pattern param) (widest_expr body)

abbrev pub widest_part : List Entry → ℕ
widest_part [] = 0
widest_part (e ∷ later) = max (widest_entry e) (widest_part later)
