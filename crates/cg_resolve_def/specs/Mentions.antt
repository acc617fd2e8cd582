-- Which items mention which through bodies, and circles of mentions (docs/LANGUAGE.md, "Names": N3). A node of the graph is the position of
-- an item: a synonym, or a signature, which stands for its function.
use Rattle.std.specs.Prelude.{ℕ, ◌+◌, List, [], ◌∷◌, ◌++◌, map, Option, Some, None, if◌then◌else◌}
use Rattle.std.specs.Str.{bytes_eq}
use Rattle.cg_surface.specs.Written.{Written, Writtens, WrittenFields, WrittenAlts}
use Rattle.cg_surface.specs.Written as types
use Rattle.cg_surface.specs.Exprs.{Expr, Exprs, FieldExprs, Binds, Alts}
use Rattle.cg_surface.specs.Exprs as exprs
use Rattle.cg_surface.specs.Programs.{Entry, synonym, signature}
use Rattle.cg_resolve_def.specs.Declared.{is_among, Defined, definition_named}
use Rattle.cg_resolve_def.specs.Faults.{bound, all_bound}

-- the names of types in a type, those of arguments among them, also where a synonym drops them
abbrev mutual
  pub type_mentions : Written → List (List ℕ)
  type_mentions (types.named p n args) = n ∷ types_mentions args
  type_mentions (types.nothing p) = []
  type_mentions (types.tuple p ts) = types_mentions ts
  type_mentions (types.paren p t) = type_mentions t
  type_mentions (types.arrow p a b) = type_mentions a ++ type_mentions b
  type_mentions (types.fields p boxed fs) = fields_mentions fs
  type_mentions (types.variant p choices) = alts_mentions choices
  type_mentions (types.bang p t) = type_mentions t
  type_mentions (types.take_some p t ns) = type_mentions t
  type_mentions (types.take_all p t q) = type_mentions t

  pub types_mentions : Writtens → List (List ℕ)
  types_mentions types.no_types = []
  types_mentions (types.and_type ts t) = types_mentions ts ++ type_mentions t

  pub fields_mentions : WrittenFields → List (List ℕ)
  fields_mentions types.no_fields = []
  fields_mentions (types.and_field fs at t) = fields_mentions fs ++ type_mentions t

  pub alts_mentions : WrittenAlts → List (List ℕ)
  alts_mentions types.no_alts = []
  alts_mentions (types.and_plain choices at) = alts_mentions choices
  alts_mentions (types.and_alt choices at t) = alts_mentions choices ++ type_mentions t

-- the names of functions in an expression; a variable that hides one is no mention
abbrev mutual
  pub expr_mentions : List (List ℕ) → Expr → List (List ℕ)
  expr_mentions scope (exprs.name p n ts) = if is_among scope n then [] else n ∷ []
  expr_mentions scope (exprs.number p v) = []
  expr_mentions scope (exprs.bool p b) = []
  expr_mentions scope (exprs.unit p) = []
  expr_mentions scope (exprs.paren p a) = expr_mentions scope a
  expr_mentions scope (exprs.sig p a t) = expr_mentions scope a
  expr_mentions scope (exprs.tuple p es) = list_mentions scope es
  expr_mentions scope (exprs.fields p fs) = values_mentions scope fs
  expr_mentions scope (exprs.con p n) = []
  expr_mentions scope (exprs.con_of p n a) = expr_mentions scope a
  expr_mentions scope (exprs.app p f a) = expr_mentions scope f ++ expr_mentions scope a
  expr_mentions scope (exprs.member p a at) = expr_mentions scope a
  expr_mentions scope (exprs.put p a fs) = expr_mentions scope a ++ values_mentions scope fs
  expr_mentions scope (exprs.unary p o a) = expr_mentions scope a
  expr_mentions scope (exprs.upcast p a) = expr_mentions scope a
  expr_mentions scope (exprs.binary p o a b) = expr_mentions scope a ++ expr_mentions scope b
  expr_mentions scope (exprs.lets p bs b) = binds_mentions scope bs ++ expr_mentions (all_bound bs ++ scope) b
  expr_mentions scope (exprs.if_else p c seen a b) = expr_mentions scope c ++ expr_mentions scope a ++ expr_mentions scope b
  expr_mentions scope (exprs.match_of p e seen choices) = expr_mentions scope e ++ match_mentions scope choices

  pub list_mentions : List (List ℕ) → Exprs → List (List ℕ)
  list_mentions scope exprs.no_exprs = []
  list_mentions scope (exprs.and_expr es e) = list_mentions scope es ++ expr_mentions scope e

  pub values_mentions : List (List ℕ) → FieldExprs → List (List ℕ)
  values_mentions scope exprs.no_fields = []
  values_mentions scope (exprs.and_field fs at e) = values_mentions scope fs ++ expr_mentions scope e

  pub binds_mentions : List (List ℕ) → Binds → List (List ℕ)
  binds_mentions scope exprs.no_binds = []
  binds_mentions scope (exprs.and_bind bs x e seen) = binds_mentions scope bs ++ expr_mentions (all_bound bs ++ scope) e

  pub match_mentions : List (List ℕ) → Alts → List (List ℕ)
  match_mentions scope exprs.no_alts = []
  match_mentions scope (exprs.and_alt choices p con x b) = match_mentions scope choices ++ expr_mentions (bound x ++ scope) b

-- the position of the first synonym of a name, and of the first signature
abbrev pub synonym_from : ℕ → List Entry → List ℕ → List ℕ
synonym_from i [] n = []
synonym_from i (synonym at params body ∷ later) n = if bytes_eq n at.name then i ∷ [] else synonym_from (i + 1) later n
synonym_from i (e ∷ later) n = synonym_from (i + 1) later n

abbrev pub signature_from : ℕ → List Entry → List ℕ → List ℕ
signature_from i [] n = []
signature_from i (signature at vars places ty ∷ later) n = if bytes_eq n at.name then i ∷ [] else signature_from (i + 1) later n
signature_from i (e ∷ later) n = signature_from (i + 1) later n

abbrev pub all_of : (List ℕ → List ℕ) → List (List ℕ) → List ℕ
all_of positions [] = []
all_of positions (n ∷ ns) = positions n ++ all_of positions ns

-- the names that the first definition of a name mentions
abbrev pub defined_mentions : Option Defined → List (List ℕ)
defined_mentions None = []
defined_mentions (Some d) = expr_mentions (bound d.param) d.body

-- the positions that an item mentions
abbrev pub entry_mentions : List Entry → Entry → List ℕ
entry_mentions entries (synonym at params body) = all_of (synonym_from 0 entries) (type_mentions body)
entry_mentions entries (signature at vars places ty) = all_of (signature_from 0 entries) (defined_mentions (definition_named entries at.name))
entry_mentions entries e = []

abbrev pub mentions : List Entry → List (List ℕ)
mentions entries = map (entry_mentions entries) entries
