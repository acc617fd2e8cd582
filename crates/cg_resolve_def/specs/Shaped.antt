-- Programs of a shape that the grammar gives (docs/LANGUAGE.md, "Grammar"): each list that has an item at least has one, each tuple has two,
-- a signature has a place for each type variable, an operator has its number of operands, and only the last alternative of a match may be
-- without a constructor.
use Rattle.std.specs.Prelude.{◌≡◌, ℕ, ◌+◌, ◌≤◌, List, length, Some, None}
use Rattle.std.specs.List.{All}
use Rattle.cg_core.specs.declared.op.Op.{Op}
use Rattle.cg_core.specs.declared.op.Op.TheVariants.{Complement, Not}
use Rattle.cg_surface.specs.Written.{Written, Writtens, WrittenFields, WrittenAlts}
use Rattle.cg_surface.specs.Written as types
use Rattle.cg_surface.specs.Patterns.{Pattern, Patterns, FieldPatterns}
use Rattle.cg_surface.specs.Patterns as patterns
use Rattle.cg_surface.specs.Exprs.{Expr, Exprs, FieldExprs, Binds, Alts}
use Rattle.cg_surface.specs.Exprs as exprs
use Rattle.cg_surface.specs.Programs.{Entry, synonym, abstract, signature, define}
use Rattle.cg_resolve_def.specs.Expand.{types_length}
use Rattle.cg_resolve_def.specs.Takes.{fields_length, alts_length, patterns_length, exprs_length, values_length}

-- ---- types

abbrev mutual
  pub IsShapedType : Written → Type 0
  IsShapedType (types.named p n args) = AreShapedTypes args
  IsShapedType (types.nothing p) = Unit {0}
  IsShapedType (types.tuple p ts) = (2 ≤ types_length ts) × AreShapedTypes ts
  IsShapedType (types.paren p t) = IsShapedType t
  IsShapedType (types.arrow p a b) = IsShapedType a × IsShapedType b
  IsShapedType (types.fields p boxed fs) = (1 ≤ fields_length fs) × AreShapedFields fs
  IsShapedType (types.variant p choices) = (1 ≤ alts_length choices) × AreShapedAlts choices
  IsShapedType (types.bang p t) = IsShapedType t
  IsShapedType (types.take_some p t ns) = (1 ≤ length ns) × IsShapedType t
  IsShapedType (types.take_all p t q) = IsShapedType t

  pub AreShapedTypes : Writtens → Type 0
  AreShapedTypes types.no_types = Unit {0}
  AreShapedTypes (types.and_type ts t) = AreShapedTypes ts × IsShapedType t

  pub AreShapedFields : WrittenFields → Type 0
  AreShapedFields types.no_fields = Unit {0}
  AreShapedFields (types.and_field fs at t) = AreShapedFields fs × IsShapedType t

  pub AreShapedAlts : WrittenAlts → Type 0
  AreShapedAlts types.no_alts = Unit {0}
  AreShapedAlts (types.and_plain choices at) = AreShapedAlts choices
  AreShapedAlts (types.and_alt choices at t) = AreShapedAlts choices × IsShapedType t

-- ---- patterns

-- how many fields there are
abbrev pub patterned_length : FieldPatterns → ℕ
patterned_length patterns.no_fields = 0
patterned_length (patterns.and_field fs at x) = patterned_length fs + 1

abbrev mutual
  pub IsShapedPattern : Pattern → Type 0
  IsShapedPattern (patterns.name p n) = Unit {0}
  IsShapedPattern (patterns.any p) = Unit {0}
  IsShapedPattern (patterns.unit p) = Unit {0}
  IsShapedPattern (patterns.paren p x) = IsShapedPattern x
  IsShapedPattern (patterns.tuple p xs) = (2 ≤ patterns_length xs) × AreShapedPatterns xs
  IsShapedPattern (patterns.fields p fs) = (1 ≤ patterned_length fs) × AreShapedPatterned fs
  IsShapedPattern (patterns.take p n fs) = (1 ≤ patterned_length fs) × AreShapedPatterned fs

  pub AreShapedPatterns : Patterns → Type 0
  AreShapedPatterns patterns.no_patterns = Unit {0}
  AreShapedPatterns (patterns.and_pattern xs x) = AreShapedPatterns xs × IsShapedPattern x

  pub AreShapedPatterned : FieldPatterns → Type 0
  AreShapedPatterned patterns.no_fields = Unit {0}
  AreShapedPatterned (patterns.and_field fs at x) = AreShapedPatterned fs × IsShapedPattern x

-- ---- expressions

-- how many bindings and alternatives there are
abbrev pub binds_length : Binds → ℕ
binds_length exprs.no_binds = 0
binds_length (exprs.and_bind bs x e seen) = binds_length bs + 1

abbrev pub choices_length : Alts → ℕ
choices_length exprs.no_alts = 0
choices_length (exprs.and_alt choices p head x b) = choices_length choices + 1

-- an operator with one operand, and with two
abbrev pub IsUnary : Op → Type 0
IsUnary Complement = Unit {0}
IsUnary Not = Unit {0}
IsUnary o = ⊥

abbrev pub IsBinary : Op → Type 0
IsBinary Complement = ⊥
IsBinary Not = ⊥
IsBinary o = Unit {0}

-- a name, or `_`
abbrev pub IsBare : Pattern → Type 0
IsBare (patterns.name p n) = Unit {0}
IsBare (patterns.any p) = Unit {0}
IsBare x = ⊥

-- each alternative has a constructor; and each but the last, whose pattern without one is bare
abbrev pub HaveHeads : Alts → Type 0
HaveHeads exprs.no_alts = Unit {0}
HaveHeads (exprs.and_alt choices p None x b) = ⊥
HaveHeads (exprs.and_alt choices p (Some n) x b) = HaveHeads choices

abbrev pub HasLast : Alts → Type 0
HasLast exprs.no_alts = Unit {0}
HasLast (exprs.and_alt choices p None x b) = HaveHeads choices × IsBare x
HasLast (exprs.and_alt choices p (Some n) x b) = HaveHeads choices

abbrev mutual
  pub IsShapedExpr : Expr → Type 0
  IsShapedExpr (exprs.name p n ts) = AreShapedTypes ts
  IsShapedExpr (exprs.number p v) = Unit {0}
  IsShapedExpr (exprs.bool p b) = Unit {0}
  IsShapedExpr (exprs.unit p) = Unit {0}
  IsShapedExpr (exprs.paren p a) = IsShapedExpr a
  IsShapedExpr (exprs.sig p a t) = IsShapedExpr a × IsShapedType t
  IsShapedExpr (exprs.tuple p es) = (2 ≤ exprs_length es) × AreShapedExprs es
  IsShapedExpr (exprs.fields p fs) = (1 ≤ values_length fs) × AreShapedValues fs
  IsShapedExpr (exprs.con p n) = Unit {0}
  IsShapedExpr (exprs.con_of p n a) = IsShapedExpr a
  IsShapedExpr (exprs.app p f a) = IsShapedExpr f × IsShapedExpr a
  IsShapedExpr (exprs.member p a at) = IsShapedExpr a
  IsShapedExpr (exprs.put p a fs) = (1 ≤ values_length fs) × IsShapedExpr a × AreShapedValues fs
  IsShapedExpr (exprs.unary p o a) = IsUnary o × IsShapedExpr a
  IsShapedExpr (exprs.upcast p a) = IsShapedExpr a
  IsShapedExpr (exprs.binary p o a b) = IsBinary o × IsShapedExpr a × IsShapedExpr b
  IsShapedExpr (exprs.lets p bs b) = (1 ≤ binds_length bs) × AreShapedBinds bs × IsShapedExpr b
  IsShapedExpr (exprs.if_else p c seen a b) = IsShapedExpr c × IsShapedExpr a × IsShapedExpr b
  IsShapedExpr (exprs.match_of p e seen choices) = (1 ≤ choices_length choices) × HasLast choices × IsShapedExpr e × AreShapedChoices choices

  pub AreShapedExprs : Exprs → Type 0
  AreShapedExprs exprs.no_exprs = Unit {0}
  AreShapedExprs (exprs.and_expr es e) = AreShapedExprs es × IsShapedExpr e

  pub AreShapedValues : FieldExprs → Type 0
  AreShapedValues exprs.no_fields = Unit {0}
  AreShapedValues (exprs.and_field fs at e) = AreShapedValues fs × IsShapedExpr e

  pub AreShapedBinds : Binds → Type 0
  AreShapedBinds exprs.no_binds = Unit {0}
  AreShapedBinds (exprs.and_bind bs x e seen) = AreShapedBinds bs × IsShapedPattern x × IsShapedExpr e

  pub AreShapedChoices : Alts → Type 0
  AreShapedChoices exprs.no_alts = Unit {0}
  AreShapedChoices (exprs.and_alt choices p head x b) = AreShapedChoices choices × IsShapedPattern x × IsShapedExpr b

-- ---- programs

abbrev pub IsShapedEntry : Entry → Type 0
IsShapedEntry (synonym at params body) = IsShapedType body
IsShapedEntry (abstract at params) = Unit {0}
IsShapedEntry (signature at vars places ty) = (length places ≡ length vars) × IsShapedType ty
IsShapedEntry (define at param body) = IsShapedPattern param × IsShapedExpr body

abbrev pub IsShaped : List Entry → Type 0
IsShaped entries = All IsShapedEntry entries
