-- Expressions as plain trees, with no memory in them, and what an expression of the code stands for.
use Rattle.std.specs.Prelude.{◌≡◌, ℕ, ◌+◌, max, List, [], ◌∷◌, ◌++◌, Option, Some, None, Bool, map, refl}
use Rattle.cg_base.specs.declared.place.Place.{Place}
use Rattle.cg_core.specs.declared.at.At.{At}
use Rattle.cg_core.specs.declared.op.Op.{Op}
use Rattle.cg_surface.specs.declared.expr.SExpr.{SExpr}
use Rattle.cg_surface.specs.declared.expr.Alt.{Alt}
use Rattle.cg_surface.specs.declared.expr.Bind.{Bind}
use Rattle.cg_surface.specs.declared.expr.FExpr.{FExpr}
use Rattle.cg_surface.specs.declared.expr.SForm.TheOpen as open'
use Rattle.cg_surface.specs.declared.expr.SForm.TheOpen.{SForm-F, Alt-F, Bind-F, FExpr-F, SExpr-F}
use Rattle.cg_surface.specs.declared.expr.SForm.TheFolds.{fold-SExpr, fold-Alt, fold-Bind, fold-FExpr}
use Rattle.cg_surface.specs.Written.{Written, Writtens, to_types, written_of}
use Rattle.cg_surface.specs.Written as types
use Rattle.cg_surface.specs.Patterns.{Pattern, pattern_of}
use Rattle.cg_surface.specs.Patterns as patterns

mutual
  -- an expression, with its place: that of its sign for an operator with two operands, else that of its first token. Lists
  -- have their last item outermost
  pub data Expr : Type 0 where
    name : Place → List ℕ → Writtens → Expr
    number : Place → Option ℕ → Expr
    bool : Place → Bool → Expr
    unit : Place → Expr
    paren : Place → Expr → Expr
    sig : Place → Expr → Written → Expr
    tuple : Place → Exprs → Expr
    fields : Place → FieldExprs → Expr
    con : Place → List ℕ → Expr
    con_of : Place → List ℕ → Expr → Expr
    app : Place → Expr → Expr → Expr
    member : Place → Expr → At → Expr
    put : Place → Expr → FieldExprs → Expr
    unary : Place → Op → Expr → Expr
    upcast : Place → Expr → Expr
    binary : Place → Op → Expr → Expr → Expr
    lets : Place → Binds → Expr → Expr
    if_else : Place → Expr → List At → Expr → Expr → Expr
    match_of : Place → Expr → List At → Alts → Expr

  pub data Exprs : Type 0 where
    no_exprs : Exprs
    and_expr : Exprs → Expr → Exprs

  -- fields, each with its value
  pub data FieldExprs : Type 0 where
    no_fields : FieldExprs
    and_field : FieldExprs → At → Expr → FieldExprs

  -- patterns, each with the value that it is bound to and the variables that are observed in it
  pub data Binds : Type 0 where
    no_binds : Binds
    and_bind : Binds → Pattern → Expr → List At → Binds

  -- alternatives: place, constructor where there is one, pattern, body
  pub data Alts : Type 0 where
    no_alts : Alts
    and_alt : Alts → Place → Option (List ℕ) → Pattern → Expr → Alts

-- a field, a binding and an alternative, as values
pub record OneField : Type 0 where
  pub at : At
  pub value : Expr

pub record OneBind : Type 0 where
  pub pattern : Pattern
  pub value : Expr
  pub seen : List At

pub record OneAlt : Type 0 where
  pub place : Place
  pub con : Option (List ℕ)
  pub pattern : Pattern
  pub body : Expr

-- the tree's own lists, made of lists behind those before them
abbrev pub exprs_behind : Exprs → List Expr → Exprs
exprs_behind before [] = before
exprs_behind before (e ∷ es) = exprs_behind (and_expr before e) es

abbrev pub fields_behind : FieldExprs → List OneField → FieldExprs
fields_behind before [] = before
fields_behind before (f ∷ fs) = fields_behind (and_field before f.at f.value) fs

abbrev pub binds_behind : Binds → List OneBind → Binds
binds_behind before [] = before
binds_behind before (b ∷ bs) = binds_behind (and_bind before b.pattern b.value b.seen) bs

abbrev pub alts_behind : Alts → List OneAlt → Alts
alts_behind before [] = before
alts_behind before (a ∷ choices) = alts_behind (and_alt before a.place a.con a.pattern a.body) choices

unfoldable pub to_exprs : List Expr → Exprs
to_exprs es = exprs_behind no_exprs es

unfoldable pub to_fields : List OneField → FieldExprs
to_fields fs = fields_behind no_fields fs

unfoldable pub to_binds : List OneBind → Binds
to_binds bs = binds_behind no_binds bs

unfoldable pub to_alts : List OneAlt → Alts
to_alts choices = alts_behind no_alts choices

-- one layer, with what its children stand for
abbrev pub layer : SForm-F (Place → Expr) OneAlt OneBind OneField Expr → Place → Expr
layer (open'.Name n ts) = λ p. name p n (to_types (map written_of ts))
layer (open'.Number n) = λ p. number p n
layer (open'.Bool b) = λ p. bool p b
layer open'.Unit = λ p. unit p
layer (open'.Paren e) = λ p. paren p e.value
layer (open'.Sig e t) = λ p. sig p e.value (written_of t)
layer (open'.Tuple es) = λ p. tuple p (to_exprs es)
layer (open'.Fields fs) = λ p. fields p (to_fields fs)
layer (open'.Con n None) = λ p. con p n
layer (open'.Con n (Some e)) = λ p. con_of p n e.value
layer (open'.App f e) = λ p. app p f.value e.value
layer (open'.Member e at) = λ p. member p e.value at
layer (open'.Put e fs) = λ p. put p e.value (to_fields fs)
layer (open'.Unary o e) = λ p. unary p o e.value
layer (open'.Upcast e) = λ p. upcast p e.value
layer (open'.Binary o a b) = λ p. binary p o a.value b.value
layer (open'.Let bs e) = λ p. lets p (to_binds bs) e.value
layer (open'.If c seen a b) = λ p. if_else p c.value seen a.value b.value
layer (open'.Match e seen choices) = λ p. match_of p e.value seen (to_alts choices)

abbrev pub alt_layer : Alt-F (Place → Expr) OneAlt OneBind OneField Expr → OneAlt
alt_layer a = record { place = a.place; con = a.con; pattern = pattern_of a.pat; body = a.body }

abbrev pub bind_layer : Bind-F (Place → Expr) OneAlt OneBind OneField Expr → OneBind
bind_layer b = record { pattern = pattern_of b.pat; value = b.value; seen = b.seen }

abbrev pub field_layer : FExpr-F (Place → Expr) OneAlt OneBind OneField Expr → OneField
field_layer f = record { at = f.at; value = f.value }

abbrev pub expr_layer : SExpr-F (Place → Expr) OneAlt OneBind OneField Expr → Expr
expr_layer e = e.form e.place

-- the expression that a value of the code stands for
abbrev pub expr_of : SExpr → Expr
expr_of = fold-SExpr (Place → Expr) OneAlt OneBind OneField Expr layer alt_layer bind_layer field_layer expr_layer

abbrev pub alt_of : Alt → OneAlt
alt_of = fold-Alt (Place → Expr) OneAlt OneBind OneField Expr layer alt_layer bind_layer field_layer expr_layer

abbrev pub bind_of : Bind → OneBind
bind_of = fold-Bind (Place → Expr) OneAlt OneBind OneField Expr layer alt_layer bind_layer field_layer expr_layer

abbrev pub field_of : FExpr → OneField
field_of = fold-FExpr (Place → Expr) OneAlt OneBind OneField Expr layer alt_layer bind_layer field_layer expr_layer

-- the place of an expression
abbrev pub place_of : Expr → Place
place_of (name p n ts) = p
place_of (number p v) = p
place_of (bool p b) = p
place_of (unit p) = p
place_of (paren p a) = p
place_of (sig p a t) = p
place_of (tuple p es) = p
place_of (fields p fs) = p
place_of (con p n) = p
place_of (con_of p n a) = p
place_of (app p f a) = p
place_of (member p a at) = p
place_of (put p a fs) = p
place_of (unary p o a) = p
place_of (upcast p a) = p
place_of (binary p o a b) = p
place_of (lets p bs a) = p
place_of (if_else p c seen a b) = p
place_of (match_of p a seen choices) = p

-- how many nodes lie on the longest way down: types, patterns and expressions are nodes, bindings, alternatives and fields
-- are none of their own, and the `()` of a constructor alone is one
abbrev mutual
  pub depth_of : Expr → ℕ
  depth_of (name p n ts) = types.types_depth ts + 1
  depth_of (number p v) = 1
  depth_of (bool p b) = 1
  depth_of (unit p) = 1
  depth_of (paren p a) = depth_of a + 1
  depth_of (sig p a t) = max (depth_of a) (types.depth_of t) + 1
  depth_of (tuple p es) = exprs_depth es + 1
  depth_of (fields p fs) = fields_depth fs + 1
  depth_of (con p n) = 1
  depth_of (con_of p n a) = depth_of a + 1
  depth_of (app p f a) = max (depth_of f) (depth_of a) + 1
  depth_of (member p a at) = depth_of a + 1
  depth_of (put p a fs) = max (depth_of a) (fields_depth fs) + 1
  depth_of (unary p o a) = depth_of a + 1
  depth_of (upcast p a) = depth_of a + 1
  depth_of (binary p o a b) = max (depth_of a) (depth_of b) + 1
  depth_of (lets p bs a) = max (binds_depth bs) (depth_of a) + 1
  depth_of (if_else p c seen a b) = max (depth_of c) (max (depth_of a) (depth_of b)) + 1
  depth_of (match_of p a seen choices) = max (depth_of a) (alts_depth choices) + 1

  pub exprs_depth : Exprs → ℕ
  exprs_depth no_exprs = 0
  exprs_depth (and_expr es e) = max (exprs_depth es) (depth_of e)

  pub fields_depth : FieldExprs → ℕ
  fields_depth no_fields = 0
  fields_depth (and_field fs at e) = max (fields_depth fs) (depth_of e)

  pub binds_depth : Binds → ℕ
  binds_depth no_binds = 0
  binds_depth (and_bind bs x e seen) = max (binds_depth bs) (max (patterns.depth_of x) (depth_of e))

  pub alts_depth : Alts → ℕ
  alts_depth no_alts = 0
  alts_depth (and_alt choices p c x e) = max (alts_depth choices) (max (patterns.depth_of x) (depth_of e))

-- an item more at the end
exprs_more : (es : List Expr) (before : Exprs) (e : Expr) → exprs_behind before (es ++ e ∷ []) ≡ and_expr (exprs_behind before es) e
exprs_more [] before e = refl
exprs_more (f ∷ es) before e = exprs_more es (and_expr before f) e

fields_more : (fs : List OneField) (before : FieldExprs) (f : OneField) → fields_behind before (fs ++ f ∷ []) ≡ and_field (fields_behind before fs) f.at f.value
fields_more [] before f = refl
fields_more (g ∷ fs) before f = fields_more fs (and_field before g.at g.value) f

binds_more : (bs : List OneBind) (before : Binds) (b : OneBind) → binds_behind before (bs ++ b ∷ []) ≡ and_bind (binds_behind before bs) b.pattern b.value b.seen
binds_more [] before b = refl
binds_more (c ∷ bs) before b = binds_more bs (and_bind before c.pattern c.value c.seen) b

alts_more : (choices : List OneAlt) (before : Alts) (a : OneAlt) → alts_behind before (choices ++ a ∷ []) ≡ and_alt (alts_behind before choices) a.place a.con a.pattern a.body
alts_more [] before a = refl
alts_more (b ∷ choices) before a = alts_more choices (and_alt before b.place b.con b.pattern b.body) a

pub exprs_push : (es : List Expr) (e : Expr) → to_exprs (es ++ e ∷ []) ≡ and_expr (to_exprs es) e
unfolding to_exprs
exprs_push es e = exprs_more es no_exprs e

pub fields_push : (fs : List OneField) (f : OneField) → to_fields (fs ++ f ∷ []) ≡ and_field (to_fields fs) f.at f.value
unfolding to_fields
fields_push fs f = fields_more fs no_fields f

pub binds_push : (bs : List OneBind) (b : OneBind) → to_binds (bs ++ b ∷ []) ≡ and_bind (to_binds bs) b.pattern b.value b.seen
unfolding to_binds
binds_push bs b = binds_more bs no_binds b

pub alts_push : (choices : List OneAlt) (a : OneAlt) → to_alts (choices ++ a ∷ []) ≡ and_alt (to_alts choices) a.place a.con a.pattern a.body
unfolding to_alts
alts_push choices a = alts_more choices no_alts a

pub binds_none : to_binds [] ≡ no_binds
unfolding to_binds
binds_none = refl
