-- Which tokens spell which expression (docs/LANGUAGE.md, "Expressions" and "Bars").
use Rattle.std.specs.Prelude.{◌≡◌, ◌⊎◌, ◌≤◌, ◌==◌, ℕ, ◌-◌, Bool, true, List, [], ◌∷◌, ◌++◌, length, Option, Some, None, if◌then◌else◌, ⊤}
use Rattle.cg_base.specs.declared.place.Place.{Place}
use Rattle.cg_core.specs.declared.at.At.{At}
use Rattle.cg_core.specs.declared.op.Op.{Op}
use Rattle.cg_core.specs.declared.op.Op.TheVariants.{Add, Sub, Mul, Div, Rem, And, Or, Xor, Shl, Shr, Complement, Eq, Ne, Lt, Gt, Le, Ge, Both, Either, Not}
use Rattle.cg_surface.specs.Written.{Written, Writtens, no_types, and_type}
use Rattle.cg_surface.specs.Patterns.{Pattern}
use Rattle.cg_surface.specs.Patterns as patterns
use Rattle.cg_surface.specs.Exprs.{Expr, name, number, bool, unit, paren, sig, tuple, fields, con, con_of, app, member, put, unary, upcast, binary, lets, if_else, match_of, Exprs, no_exprs, and_expr, FieldExprs, no_fields, and_field, Binds as Bindings, no_binds, and_bind, Alts, no_alts, and_alt, place_of}
use Rattle.cg_parser_symbols.specs.Symbols.{Seen}
use Rattle.cg_parser_symbols.specs.Symbols as symbols
use Rattle.cg_parser_symbols.specs.Readings.{Reading, ◌then◌, token, sign, IsSpelled}
use Rattle.cg_parser_build.specs.Plain.{first_place}
use Rattle.cg_parser_exprs_def.specs.Bars.{New, Joins, bar_choice}

-- how loosely an operator binds: 3 the tightest, 11 the loosest
abbrev pub level : Op → ℕ
level Mul = 3
level Div = 3
level Rem = 3
level Add = 4
level Sub = 4
level Shl = 5
level Shr = 5
level And = 6
level Xor = 7
level Or = 8
level Eq = 9
level Ne = 9
level Lt = 9
level Gt = 9
level Le = 9
level Ge = 9
level Both = 10
level Either = 11
level Complement = 2
level Not = 2

-- how loose its left operand may be: operators associate to the left, and comparisons don't chain
abbrev pub left_of : Op → ℕ
left_of o = if (level o == 9) then 8 else level o

abbrev pub right_of : Op → ℕ
right_of o = level o - 1

-- how loosely an expression is bound: 0 is an atom with what is behind it, 1 a call, 2 what an operator with one operand
-- or a constructor begins, 12 a `let`, an `if` or a match
abbrev pub looseness : Expr → ℕ
looseness (name p n ts) = 0
looseness (number p v) = 0
looseness (bool p b) = 0
looseness (unit p) = 0
looseness (paren p a) = 0
looseness (sig p a t) = 0
looseness (tuple p es) = 0
looseness (fields p fs) = 0
looseness (con p n) = 0
looseness (con_of p n a) = 2
looseness (app p f a) = 1
looseness (member p a at) = 0
looseness (put p a fs) = 0
looseness (unary p o a) = 2
looseness (upcast p a) = 2
looseness (binary p o a b) = level o
looseness (lets p bs a) = 12
looseness (if_else p c seen a b) = 12
looseness (match_of p a seen choices) = 12

-- no constructor stands at the head of a call, of a member or of a put
abbrev pub Heads : Expr → Type 0
Heads (con p n) = ⊥
Heads (app p f a) = Heads f
Heads (member p a at) = Heads a
Heads (put p a fs) = Heads a
Heads e = ⊤

-- nor where an expression stands that is no argument, but it may stand there alone
abbrev pub Stands : Expr → Type 0
Stands (con p n) = ⊤
Stands (app p f a) = Heads f
Stands (member p a at) = Heads a
Stands (put p a fs) = Heads a
Stands e = ⊤

-- the sign of an operator with two operands; a shift's second sign is joined to the first
abbrev pub op_sign : Op → Place → Reading
op_sign Mul p = token symbols.star p
op_sign Div p = token symbols.slash p
op_sign Rem p = token symbols.percent p
op_sign Add p = token symbols.plus p
op_sign Sub p = token symbols.minus p
op_sign Shl p = λ ts rest. (j : Bool) × (token (symbols.less j) p then sign (symbols.less true)) ts rest
op_sign Shr p = λ ts rest. (j : Bool) × (token (symbols.greater j) p then sign (symbols.greater true)) ts rest
op_sign And p = token symbols.bit_and p
op_sign Xor p = token symbols.bit_xor p
op_sign Or p = token symbols.bit_or p
op_sign Eq p = token symbols.equal p
op_sign Ne p = token symbols.not_equal p
op_sign Lt p = λ ts rest. (j : Bool) × token (symbols.less j) p ts rest
op_sign Gt p = λ ts rest. (j : Bool) × token (symbols.greater j) p ts rest
op_sign Le p = token symbols.less_equal p
op_sign Ge p = token symbols.greater_equal p
op_sign Both p = token symbols.both p
op_sign Either p = token symbols.either p
op_sign Complement p = λ ts rest. ⊥
op_sign Not p = λ ts rest. ⊥

-- the word of an operator with one operand
abbrev pub op_word : Op → Place → Reading
op_word Complement p = token symbols.complement_word p
op_word Not p = token symbols.not_word p
op_word _ p = λ ts rest. ⊥

-- every alternative but the last has a constructor
abbrev pub AreNamed : Alts → Type 0
AreNamed no_alts = ⊤
AreNamed (and_alt choices p None x e) = ⊥
AreNamed (and_alt choices p (Some n) x e) = AreNamed choices

abbrev pub OnlyLast : Alts → Type 0
OnlyLast no_alts = ⊤
OnlyLast (and_alt choices p head x e) = AreNamed choices

-- there are two at least
abbrev pub AreMany : Exprs → Type 0
AreMany no_exprs = ⊥
AreMany (and_expr no_exprs e) = ⊥
AreMany (and_expr (and_expr es f) e) = ⊤

abbrev mutual
  -- each part is bound tightly enough for its place
  pub Binds : Expr → Type 0
  Binds (name p n args) = ⊤
  Binds (number p v) = ⊤
  Binds (bool p b) = ⊤
  Binds (unit p) = ⊤
  Binds (paren p a) = Stands a × Binds a
  Binds (sig p a t) = Stands a × Binds a
  Binds (tuple p es) = AreMany es × ExprsBind es
  Binds (fields p fs) = FieldsBind fs
  Binds (con p n) = ⊤
  Binds (con_of p n a) = (looseness a ≤ 0) × Binds a
  Binds (app p f a) = (looseness f ≤ 1) × Heads f × Binds f × (looseness a ≤ 0) × Binds a
  Binds (member p a at) = (looseness a ≤ 0) × Binds a
  Binds (put p a fs) = (looseness a ≤ 0) × Binds a × FieldsBind fs
  Binds (unary p o a) = (looseness a ≤ 2) × Stands a × Binds a
  Binds (upcast p a) = (looseness a ≤ 2) × Stands a × Binds a
  Binds (binary p o a b) = (looseness a ≤ left_of o) × Stands a × Binds a × (looseness b ≤ right_of o) × Stands b × Binds b
  Binds (lets p bs b) = BindsBind bs × Stands b × Binds b
  Binds (if_else p c seen a b) = Stands c × Binds c × Stands a × Binds a × Stands b × Binds b
  Binds (match_of p e seen choices) = (looseness e ≤ 11) × Stands e × Binds e × OnlyLast choices × AltsBind choices

  pub ExprsBind : Exprs → Type 0
  ExprsBind no_exprs = ⊤
  ExprsBind (and_expr es e) = ExprsBind es × Stands e × Binds e

  pub FieldsBind : FieldExprs → Type 0
  FieldsBind no_fields = ⊤
  FieldsBind (and_field fs at e) = FieldsBind fs × Stands e × Binds e

  pub BindsBind : Bindings → Type 0
  BindsBind no_binds = ⊤
  BindsBind (and_bind bs x e seen) = BindsBind bs × Stands e × Binds e

  pub AltsBind : Alts → Type 0
  AltsBind no_alts = ⊤
  AltsBind (and_alt choices p head x e) = AltsBind choices × Stands e × Binds e

-- Readings, where these are the tokens that spell types and patterns.
module _ (OfType : List Seen → Written → Type 0) (OfPattern : List Seen → Pattern → Type 0) where
  -- type arguments, each with a comma behind it, and in brackets
  abbrev pub ArgsBefore : Writtens → Reading
  ArgsBefore no_types ts rest = ts ≡ rest
  ArgsBefore (and_type args t) ts rest = (ArgsBefore args then IsSpelled OfType t then sign symbols.comma) ts rest

  abbrev pub ReadsArgs : Writtens → Reading
  ReadsArgs no_types ts rest = ts ≡ rest
  ReadsArgs (and_type args t) ts rest = (sign symbols.bracket then ArgsBefore args then IsSpelled OfType t then sign symbols.closing_bracket) ts rest

  -- observed variables
  abbrev pub ReadsSeen : List At → Reading
  ReadsSeen [] ts rest = ts ≡ rest
  ReadsSeen (n ∷ ns) ts rest = (sign symbols.bang then token (symbols.lower n.name) n.place then ReadsSeen ns) ts rest

  -- what stands between a bar and an arrow: a constructor with a pattern, which is `()` at its place where none is written; or a name
  -- or a wildcard alone
  abbrev pub ReadsHead : Place → Option (List ℕ) → Pattern → Reading
  ReadsHead p (Some n) x ts rest =
      (((x ≡ patterns.unit p) × token (symbols.upper n) p ts rest) ⊎ (token (symbols.upper n) p then IsSpelled OfPattern x) ts rest)
  ReadsHead p None x ts rest =
      (((n : List ℕ) × (x ≡ patterns.name p n) × token (symbols.lower n) p ts rest) ⊎ ((x ≡ patterns.any p) × token symbols.wildcard p ts rest))

  -- a field with its value, where this is how the value is read; one that is written alone is the variable of its name
  abbrev pub FieldAs : Reading → At → Expr → Reading
  FieldAs R at e ts rest =
      ((e ≡ name at.place at.name no_types) × token (symbols.lower at.name) at.place ts rest)
      ⊎ ((token (symbols.lower at.name) at.place then sign symbols.equals then R) ts rest)

  -- an expression in a frame of its own, or one with no match at its end, where this is how it is read
  abbrev pub WholeBy : (List ℕ → List ℕ → Reading) → Reading
  WholeBy R ts rest = (to : List ℕ) × R [] to ts rest

  abbrev mutual
    -- The tokens from `ts` on spell the expression, and `rest` stands behind it. The two lists are the matches that are open in the
    -- innermost frame before the expression, and at its end: the columns of their first bars, the innermost first.
    pub ReadsExpr : Expr → List ℕ → List ℕ → Reading
    ReadsExpr (name p n args) os to ts rest = (to ≡ os) × (token (symbols.lower n) p then ReadsArgs args) ts rest
    ReadsExpr (number p v) os to ts rest = (to ≡ os) × token (symbols.numeral v) p ts rest
    ReadsExpr (bool p b) os to ts rest = (to ≡ os) × token (if b then symbols.true_word else symbols.false_word) p ts rest
    ReadsExpr (unit p) os to ts rest = (to ≡ os) × (token symbols.opening p then sign symbols.closing) ts rest
    ReadsExpr (paren p a) os to ts rest = (to ≡ os) × (token symbols.opening p then WholeBy (ReadsExpr a) then sign symbols.closing) ts rest
    ReadsExpr (sig p a t) os to ts rest = (to ≡ os) × (token symbols.opening p then WholeBy (ReadsExpr a) then sign symbols.colon then IsSpelled OfType t then sign symbols.closing) ts rest
    ReadsExpr (tuple p es) os to ts rest = (to ≡ os) × (token symbols.opening p then ReadsList es then sign symbols.closing) ts rest
    ReadsExpr (fields p fs) os to ts rest = (to ≡ os) × (token symbols.unboxed p then ReadsFields fs then sign symbols.closing_brace) ts rest
    ReadsExpr (con p n) os to ts rest = (to ≡ os) × token (symbols.upper n) p ts rest
    ReadsExpr (con_of p n a) os to ts rest = (to ≡ os) × (token (symbols.upper n) p then WholeBy (ReadsExpr a)) ts rest
    ReadsExpr (app p f a) os to ts rest = (to ≡ os) × (p ≡ place_of f) × (WholeBy (ReadsExpr f) then WholeBy (ReadsExpr a)) ts rest
    ReadsExpr (member p a at) os to ts rest = (to ≡ os) × (p ≡ place_of a) × (WholeBy (ReadsExpr a) then sign symbols.dot then token (symbols.lower at.name) at.place) ts rest
    ReadsExpr (put p a fs) os to ts rest = (to ≡ os) × (p ≡ place_of a) × (WholeBy (ReadsExpr a) then sign symbols.brace then ReadsFields fs then sign symbols.closing_brace) ts rest
    ReadsExpr (unary p o a) os to ts rest = (to ≡ os) × (op_word o p then WholeBy (ReadsExpr a)) ts rest
    ReadsExpr (upcast p a) os to ts rest = (to ≡ os) × (token symbols.upcast_word p then WholeBy (ReadsExpr a)) ts rest
    ReadsExpr (binary p o a b) os to ts rest = (to ≡ os) × (WholeBy (ReadsExpr a) then op_sign o p then WholeBy (ReadsExpr b)) ts rest
    ReadsExpr (lets p binds b) os to ts rest = (token symbols.let_word p then ReadsBinds binds then sign symbols.in_word then ReadsExpr b os to) ts rest
    ReadsExpr (if_else p c seen a b) os to ts rest =
        (token symbols.if_word p then WholeBy (ReadsExpr c) then ReadsSeen seen then sign symbols.then_word then WholeBy (ReadsExpr a) then sign symbols.else_word then ReadsExpr b os to) ts rest
    ReadsExpr (match_of p e seen choices) os to ts rest = (p ≡ first_place e) × (c : ℕ) × (WholeBy (ReadsExpr e) then ReadsSeen seen then ReadsAlts choices c os to) ts rest

    -- expressions, each with a comma behind it; and expressions parted by commas
    pub ExprsBefore : Exprs → Reading
    ExprsBefore no_exprs ts rest = ts ≡ rest
    ExprsBefore (and_expr es e) ts rest = (ExprsBefore es then WholeBy (ReadsExpr e) then sign symbols.comma) ts rest

    pub ReadsList : Exprs → Reading
    ReadsList no_exprs ts rest = ⊥
    ReadsList (and_expr es e) ts rest = (ExprsBefore es then WholeBy (ReadsExpr e)) ts rest

    -- fields
    pub FieldsBefore : FieldExprs → Reading
    FieldsBefore no_fields ts rest = ts ≡ rest
    FieldsBefore (and_field fs at e) ts rest = (FieldsBefore fs then FieldAs (WholeBy (ReadsExpr e)) at e then sign symbols.comma) ts rest

    pub ReadsFields : FieldExprs → Reading
    ReadsFields no_fields ts rest = ⊥
    ReadsFields (and_field fs at e) ts rest = (FieldsBefore fs then FieldAs (WholeBy (ReadsExpr e)) at e) ts rest

    -- bindings, parted by `and`
    pub BindsBefore : Bindings → Reading
    BindsBefore no_binds ts rest = ts ≡ rest
    BindsBefore (and_bind bs x e seen) ts rest =
        (BindsBefore bs then IsSpelled OfPattern x then sign symbols.equals then WholeBy (ReadsExpr e) then ReadsSeen seen then sign symbols.and_word) ts rest

    pub ReadsBinds : Bindings → Reading
    ReadsBinds no_binds ts rest = ⊥
    ReadsBinds (and_bind bs x e seen) ts rest = (BindsBefore bs then IsSpelled OfPattern x then sign symbols.equals then WholeBy (ReadsExpr e) then ReadsSeen seen) ts rest

    -- The alternatives of a match whose first bar stands at column c: that bar opens a match among those that are open before it, and
    -- each later one belongs to this match among those that are open at the end of the alternative before it.
    pub ReadsAlts : Alts → ℕ → List ℕ → List ℕ → Reading
    ReadsAlts no_alts c os to ts rest = ⊥
    ReadsAlts (and_alt no_alts p head x b) c os to ts rest =
        (q : Place) × (first : Bool) × (c ≡ q.column) × (bar_choice first q.column os ≡ New)
        × (token (symbols.bar first) q then ReadsHead p head x then sign symbols.arrow then ReadsExpr b (c ∷ os) to) ts rest
    ReadsAlts (and_alt (and_alt choices p' head' x' b') p head x b) c os to ts rest =
        (mid : List ℕ) × (q : Place) × (first : Bool) × (inner : List ℕ) × (mid ≡ inner ++ c ∷ os) × (bar_choice first q.column mid ≡ Joins (length inner))
        × (ReadsAlts (and_alt choices p' head' x' b') c os mid then token (symbols.bar first) q then ReadsHead p head x then sign symbols.arrow then ReadsExpr b (c ∷ os) to) ts rest

  abbrev pub ReadsWhole : Expr → Reading
  ReadsWhole e = WholeBy (ReadsExpr e)

  -- the tokens spell the expression
  abbrev pub SpellsExpr : List Seen → Expr → Type 0
  SpellsExpr ts e = Stands e × Binds e × ReadsWhole e ts []
