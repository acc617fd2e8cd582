-- Expressions up to the depth of the language, past which there is none.
use Rattle.std.specs.Prelude.{ℕ, List, Option, Some, None, nat_le, if◌then◌else◌}
use Rattle.cg_base.specs.declared.place.Place.{Place}
use Rattle.cg_core.specs.declared.at.At.{At}
use Rattle.cg_surface.specs.Written.{Written, Writtens, no_types, and_type, types_depth}
use Rattle.cg_surface.specs.Written as types_of
use Rattle.cg_surface.specs.Patterns.{Pattern}
use Rattle.cg_surface.specs.Patterns as patterns_of
use Rattle.cg_surface.specs.Exprs.{Expr, name, number, bool, unit, paren, sig, tuple, fields, con, con_of, app, member, put, unary, upcast, binary, lets, if_else, match_of, Exprs, no_exprs, and_expr, FieldExprs, no_fields, and_field, Binds, no_binds, and_bind, Alts, no_alts, and_alt, place_of, depth_of, exprs_depth, fields_depth, binds_depth, alts_depth}
use Rattle.cg_parser_build.specs.Builder.{Builder}
use Rattle.cg_parser_build.specs.Plain.{first_place}

-- no expression has more depth
abbrev pub depth_limit : ℕ
depth_limit = 1024

-- an expression, where it is no deeper than allowed; and lists, where none of theirs is
abbrev pub within : Expr → Option Expr
within e = if nat_le (depth_of e) depth_limit then Some e else None

abbrev pub exprs_within : Exprs → Option Exprs
exprs_within es = if nat_le (exprs_depth es) depth_limit then Some es else None

abbrev pub fields_within : FieldExprs → Option FieldExprs
fields_within gs = if nat_le (fields_depth gs) depth_limit then Some gs else None

abbrev pub binds_within : Binds → Option Binds
binds_within bs = if nat_le (binds_depth bs) depth_limit then Some bs else None

abbrev pub alts_within : Alts → Option Alts
alts_within choices = if nat_le (alts_depth choices) depth_limit then Some choices else None

-- the same of types and of patterns
abbrev pub types_within : Writtens → Option Writtens
types_within ts = if nat_le (types_depth ts) depth_limit then Some ts else None

abbrev pub type_within : Written → Option Written
type_within t = if nat_le (types_of.depth_of t) depth_limit then Some t else None

abbrev pub pattern_within : Pattern → Option Pattern
pattern_within x = if nat_le (patterns_of.depth_of x) depth_limit then Some x else None

-- an expression made of one part
abbrev pub one : {A : Type 0} → (A → Expr) → Option A → Option Expr
one f None = None
one f (Some a) = within (f a)

-- of two
abbrev pub two : {A B : Type 0} → (A → B → Expr) → Option A → Option B → Option Expr
two f None b = None
two f (Some a) None = None
two f (Some a) (Some b) = within (f a b)

-- and of three
abbrev pub three : {A B C : Type 0} → (A → B → C → Expr) → Option A → Option B → Option C → Option Expr
three f None b c = None
three f (Some a) None c = None
three f (Some a) (Some b) None = None
three f (Some a) (Some b) (Some c) = within (f a b c)

-- a list with a part more
abbrev pub both : {A B : Type 0} → (A → B → A) → Option A → Option B → Option A
both f None b = None
both f (Some a) None = None
both f (Some a) (Some b) = Some (f a b)

-- and with two parts more
abbrev pub all_three : {A B C : Type 0} → (A → B → C → A) → Option A → Option B → Option C → Option A
all_three f None b c = None
all_three f (Some a) None c = None
all_three f (Some a) (Some b) None = None
all_three f (Some a) (Some b) (Some c) = Some (f a b c)

-- what is made of an expression stands at its place
abbrev pub call : Expr → Expr → Expr
call f e = app (place_of f) f e

abbrev pub member_at : At → Expr → Expr
member_at at e = member (place_of e) e at

abbrev pub put_at : Expr → FieldExprs → Expr
put_at e gs = put (place_of e) e gs

-- a match stands at the first token of its subject
abbrev pub match_at : List At → Expr → Alts → Expr
match_at seen e choices = match_of (first_place e) e seen choices

-- an `if` with what is observed in its condition
abbrev pub if_at : Place → List At → Expr → Expr → Expr → Expr
if_at p seen c a b = if_else p c seen a b

-- a field, a binding and an alternative more
abbrev pub field_more : At → FieldExprs → Expr → FieldExprs
field_more at gs e = and_field gs at e

abbrev pub bind_more : List At → Binds → Pattern → Expr → Binds
bind_more seen bs x e = and_bind bs x e seen

abbrev pub alt_more : Place → Option (List ℕ) → Alts → Pattern → Expr → Alts
alt_more p head choices x e = and_alt choices p head x e

-- expressions, and lists, where they are no deeper than allowed
abbrev pub bounded : Builder (Option Expr) (Option Exprs) (Option FieldExprs) (Option Binds) (Option Alts) (Option Writtens) (Option Written) (Option Pattern)
bounded = record {
  no_args = Some no_types;
  and_arg = λ args t. both and_type args t;
  name = λ p n args. one (name p n) args;
  number = λ p v. Some (number p v);
  bool = λ p b. Some (bool p b);
  unit = λ p. Some (unit p);
  paren = λ p e. one (paren p) e;
  sig = λ p e t. two (sig p) e t;
  no_exprs = Some no_exprs;
  and_expr = λ es e. both and_expr es e;
  tuple = λ p es. one (tuple p) es;
  no_fields = Some no_fields;
  and_field = λ gs at e. both (field_more at) gs e;
  fields = λ p gs. one (fields p) gs;
  con = λ p n. Some (con p n);
  con_of = λ p n e. one (con_of p n) e;
  app = λ f e. two call f e;
  member = λ e at. one (member_at at) e;
  put = λ e gs. two put_at e gs;
  unary = λ p o e. one (unary p o) e;
  upcast = λ p e. one (upcast p) e;
  binary = λ p o a b. two (binary p o) a b;
  no_binds = Some no_binds;
  and_bind = λ bs x e seen. all_three (bind_more seen) bs x e;
  lets = λ p bs e. two (lets p) bs e;
  if_else = λ p c seen a b. three (if_at p seen) c a b;
  no_alts = Some no_alts;
  and_alt = λ choices p head x e. all_three (alt_more p head) choices x e;
  match_of = λ e seen choices. two (match_at seen) e choices;
  pattern_unit = λ p. Some (patterns_of.unit p);
  pattern_name = λ p n. Some (patterns_of.name p n);
  pattern_any = λ p. Some (patterns_of.any p);
}
