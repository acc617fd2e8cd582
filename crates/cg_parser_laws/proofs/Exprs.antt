-- An expression that the tokens spell is shaped, where the types and patterns in it are. Of a reading `r` of parts,
-- one behind the other, `r.0` are the tokens behind the first part, `r.1` is how that is read, and `r.2` how the others are.
use Rattle.std.proofs.Common.{ℕ, ◌≤◌, List, [], ◌∷◌, Option, Some, None, ⊎_elim, sym, subst as carry, arith}
use Rattle.cg_base.specs.declared.place.Place.{Place}
use Rattle.cg_core.specs.declared.at.At.{At}
use Rattle.cg_core.specs.declared.op.Op.{Op}
use Rattle.cg_core.specs.declared.op.Op.TheVariants.{Complement, Not}
use Rattle.cg_surface.specs.Written.{Written, Writtens}
use Rattle.cg_surface.specs.Written as types
use Rattle.cg_surface.specs.Patterns.{Pattern}
use Rattle.cg_surface.specs.Exprs.{Expr, Exprs, FieldExprs, Binds as Bindings, Alts}
use Rattle.cg_surface.specs.Exprs as exprs
use Rattle.cg_parser_symbols.specs.Symbols.{Seen}
use Rattle.cg_parser_symbols.specs.Readings.{Reading}
use Rattle.cg_parser_exprs_def.specs.Grammar.{AltsBind, AreMany, AreNamed, Binds, BindsBind, ExprsBind, FieldsBind, OnlyLast, op_sign, op_word}
use Rattle.cg_parser_exprs_def.specs.Grammar as grammar
use Rattle.cg_resolve_def.specs.Takes.{exprs_length, values_length}
use Rattle.cg_resolve_def.specs.Shaped.{AreShapedBinds, AreShapedChoices, AreShapedExprs, AreShapedTypes, AreShapedValues, HasLast, HaveHeads, IsBare, IsBinary, IsShapedExpr, IsShapedPattern, IsShapedType, IsUnary, binds_length, choices_length}

-- a tuple has two components at least
exprs_many : (es : Exprs) → AreMany es → 2 ≤ exprs_length es
exprs_many exprs.no_exprs m = absurd m
exprs_many (exprs.and_expr exprs.no_exprs e) m = absurd m
exprs_many (exprs.and_expr (exprs.and_expr es f) e) m = omega arith

-- an operator that a word begins has one operand, and one with a sign has two
unary_read : (o : Op) (p : Place) (ts rest : List Seen) → op_word o p ts rest → IsUnary o
unary_read Complement p ts rest r = tt
unary_read Not p ts rest r = tt
unary_read o p ts rest r = absurd r

binary_read : (o : Op) (p : Place) (ts rest : List Seen) → op_sign o p ts rest → IsBinary o
binary_read Complement p ts rest r = absurd r
binary_read Not p ts rest r = absurd r
binary_read o p ts rest r = tt

-- where each alternative is named, each has a constructor
named_heads : (choices : Alts) → AreNamed choices → HaveHeads choices
named_heads exprs.no_alts n = tt
named_heads (exprs.and_alt choices p None x e) n = absurd n
named_heads (exprs.and_alt choices p (Some c) x e) n = named_heads choices n

module _ (OfType : List Seen → Written → Type 0) (OfPattern : List Seen → Pattern → Type 0)
    (of_type : (ts : List Seen) (t : Written) → OfType ts t → IsShapedType t) (of_pattern : (ts : List Seen) (x : Pattern) → OfPattern ts x → IsShapedPattern x) where
  abbrev Reads : Expr → List ℕ → List ℕ → Reading
  Reads = grammar.ReadsExpr OfType OfPattern

  -- type arguments
  args_before : (args : Writtens) (ts rest : List Seen) → grammar.ArgsBefore OfType OfPattern args ts rest → AreShapedTypes args
  args_before types.no_types ts rest r = tt
  args_before (types.and_type args t) ts rest r = (args_before args ts r.0 r.1, of_type r.2.1.front t r.2.1.spelled)

  args_shaped : (args : Writtens) (ts rest : List Seen) → grammar.ReadsArgs OfType OfPattern args ts rest → AreShapedTypes args
  args_shaped types.no_types ts rest r = tt
  args_shaped (types.and_type args t) ts rest r = (args_before args r.0 r.2.0 r.2.1, of_type r.2.2.1.front t r.2.2.1.spelled)

  -- fields, bindings and alternatives are one at least
  fields_some : (fs : FieldExprs) (ts rest : List Seen) → grammar.ReadsFields OfType OfPattern fs ts rest → 1 ≤ values_length fs
  fields_some exprs.no_fields ts rest r = absurd r
  fields_some (exprs.and_field fs at e) ts rest r = omega arith

  binds_some : (bs : Bindings) (ts rest : List Seen) → grammar.ReadsBinds OfType OfPattern bs ts rest → 1 ≤ binds_length bs
  binds_some exprs.no_binds ts rest r = absurd r
  binds_some (exprs.and_bind bs x e seen) ts rest r = omega arith

  alts_some : (choices : Alts) (c : ℕ) (os to : List ℕ) (ts rest : List Seen) → grammar.ReadsAlts OfType OfPattern choices c os to ts rest → 1 ≤ choices_length choices
  alts_some exprs.no_alts c os to ts rest r = absurd r
  alts_some (exprs.and_alt choices p head x b) c os to ts rest r = omega arith

  -- the pattern of an alternative; and one without a constructor is a name or `_`
  head_shaped : (p : Place) (head : Option (List ℕ)) (x : Pattern) (ts rest : List Seen) → grammar.ReadsHead OfType OfPattern p head x ts rest → IsShapedPattern x
  head_shaped p (Some n) x ts rest r = ⊎_elim (λ h. carry IsShapedPattern (sym h.0) tt) (λ h. of_pattern h.2.front x h.2.spelled) r
  head_shaped p None x ts rest r = ⊎_elim (λ h. carry IsShapedPattern (sym h.1) tt) (λ h. carry IsShapedPattern (sym h.0) tt) r

  head_bare : (p : Place) (x : Pattern) (ts rest : List Seen) → grammar.ReadsHead OfType OfPattern p None x ts rest → IsBare x
  head_bare p x ts rest r = ⊎_elim (λ h. carry IsBare (sym h.1) tt) (λ h. carry IsBare (sym h.0) tt) r

  -- only the last alternative may be without a constructor
  last_shaped : (choices : Alts) (c : ℕ) (os to : List ℕ) (ts rest : List Seen) → OnlyLast choices → grammar.ReadsAlts OfType OfPattern choices c os to ts rest → HasLast choices
  last_shaped exprs.no_alts c os to ts rest o r = tt
  last_shaped (exprs.and_alt choices p (Some n) x b) c os to ts rest o r = named_heads choices o
  last_shaped (exprs.and_alt exprs.no_alts p None x b) c os to ts rest o r = (tt, head_bare p x r.4.0 r.4.2.0 r.4.2.1)
  last_shaped (exprs.and_alt (exprs.and_alt choices p' head' x' b') p None x b) c os to ts rest o r =
      (named_heads (exprs.and_alt choices p' head' x' b') o, head_bare p x r.6.2.0 r.6.2.2.0 r.6.2.2.1)

  -- a field's value is a variable, where none is written, and else is as it is read
  field_shaped : (at : At) (e : Expr) (ts rest : List Seen) → ((os to : List ℕ) (from behind : List Seen) → Reads e os to from behind → IsShapedExpr e)
      → grammar.FieldAs OfType OfPattern (grammar.WholeBy OfType OfPattern (Reads e)) at e ts rest → IsShapedExpr e
  field_shaped at e ts rest shaped r = ⊎_elim (λ f. carry IsShapedExpr (sym f.0) tt) (λ f. shaped [] f.2.2.0 f.2.0 rest f.2.2.1) r

  mutual
    expr_shaped : (e : Expr) → Binds e → (os to : List ℕ) (ts rest : List Seen) → Reads e os to ts rest → IsShapedExpr e
    expr_shaped (exprs.name p n args) k os to ts rest r = args_shaped args r.1.0 rest r.1.2
    expr_shaped (exprs.number p v) k os to ts rest r = tt
    expr_shaped (exprs.bool p v) k os to ts rest r = tt
    expr_shaped (exprs.unit p) k os to ts rest r = tt
    expr_shaped (exprs.paren p a) k os to ts rest r = expr_shaped a k.1 [] r.1.2.1.0 r.1.0 r.1.2.0 r.1.2.1.1
    expr_shaped (exprs.sig p a t) k os to ts rest r = (expr_shaped a k.1 [] r.1.2.1.0 r.1.0 r.1.2.0 r.1.2.1.1, of_type r.1.2.2.2.1.front t r.1.2.2.2.1.spelled)
    expr_shaped (exprs.tuple p es) k os to ts rest r = (exprs_many es k.0, list_shaped es k.1 r.1.0 r.1.2.0 r.1.2.1)
    expr_shaped (exprs.fields p fs) k os to ts rest r = (fields_some fs r.1.0 r.1.2.0 r.1.2.1, fields_shaped fs k r.1.0 r.1.2.0 r.1.2.1)
    expr_shaped (exprs.con p n) k os to ts rest r = tt
    expr_shaped (exprs.con_of p n a) k os to ts rest r = expr_shaped a k.1 [] r.1.2.0 r.1.0 rest r.1.2.1
    expr_shaped (exprs.app p f a) k os to ts rest r = (expr_shaped f k.2 [] r.2.1.0 ts r.2.0 r.2.1.1, expr_shaped a k.4 [] r.2.2.0 r.2.0 rest r.2.2.1)
    expr_shaped (exprs.member p a at) k os to ts rest r = expr_shaped a k.1 [] r.2.1.0 ts r.2.0 r.2.1.1
    expr_shaped (exprs.put p a fs) k os to ts rest r =
        (fields_some fs r.2.2.0 r.2.2.2.0 r.2.2.2.1, expr_shaped a k.1 [] r.2.1.0 ts r.2.0 r.2.1.1, fields_shaped fs k.2 r.2.2.0 r.2.2.2.0 r.2.2.2.1)
    expr_shaped (exprs.unary p o a) k os to ts rest r = (unary_read o p ts r.1.0 r.1.1, expr_shaped a k.2 [] r.1.2.0 r.1.0 rest r.1.2.1)
    expr_shaped (exprs.upcast p a) k os to ts rest r = expr_shaped a k.2 [] r.1.2.0 r.1.0 rest r.1.2.1
    expr_shaped (exprs.binary p o a b) k os to ts rest r =
        (binary_read o p r.1.0 r.1.2.0 r.1.2.1, expr_shaped a k.2 [] r.1.1.0 ts r.1.0 r.1.1.1, expr_shaped b k.5 [] r.1.2.2.0 r.1.2.0 rest r.1.2.2.1)
    expr_shaped (exprs.lets p bs b) k os to ts rest r = (binds_some bs r.0 r.2.0 r.2.1, binds_shaped bs k.0 r.0 r.2.0 r.2.1, expr_shaped b k.2 os to r.2.2.0 rest r.2.2.2)
    expr_shaped (exprs.if_else p c seen a b) k os to ts rest r =
        let then_on = r.2.2.2.2 in
        (expr_shaped c k.1 [] r.2.1.0 r.0 r.2.0 r.2.1.1, expr_shaped a k.3 [] then_on.1.0 r.2.2.2.0 then_on.0 then_on.1.1, expr_shaped b k.5 os to then_on.2.0 rest then_on.2.2)
    expr_shaped (exprs.match_of p e seen choices) k os to ts rest r = (
      alts_some choices r.1 os to r.2.2.0 rest r.2.2.2,
      last_shaped choices r.1 os to r.2.2.0 rest k.3 r.2.2.2,
      expr_shaped e k.2 [] r.2.1.0 ts r.2.0 r.2.1.1,
      alts_shaped choices k.4 r.1 os to r.2.2.0 rest r.2.2.2,
    )

    exprs_before : (es : Exprs) → ExprsBind es → (ts rest : List Seen) → grammar.ExprsBefore OfType OfPattern es ts rest → AreShapedExprs es
    exprs_before exprs.no_exprs k ts rest r = tt
    exprs_before (exprs.and_expr es e) k ts rest r = (exprs_before es k.0 ts r.0 r.1, expr_shaped e k.2 [] r.2.1.0 r.0 r.2.0 r.2.1.1)

    list_shaped : (es : Exprs) → ExprsBind es → (ts rest : List Seen) → grammar.ReadsList OfType OfPattern es ts rest → AreShapedExprs es
    list_shaped exprs.no_exprs k ts rest r = tt
    list_shaped (exprs.and_expr es e) k ts rest r = (exprs_before es k.0 ts r.0 r.1, expr_shaped e k.2 [] r.2.0 r.0 rest r.2.1)

    fields_before : (fs : FieldExprs) → FieldsBind fs → (ts rest : List Seen) → grammar.FieldsBefore OfType OfPattern fs ts rest → AreShapedValues fs
    fields_before exprs.no_fields k ts rest r = tt
    fields_before (exprs.and_field fs at e) k ts rest r = (fields_before fs k.0 ts r.0 r.1, field_shaped at e r.0 r.2.0 (expr_shaped e k.2) r.2.1)

    fields_shaped : (fs : FieldExprs) → FieldsBind fs → (ts rest : List Seen) → grammar.ReadsFields OfType OfPattern fs ts rest → AreShapedValues fs
    fields_shaped exprs.no_fields k ts rest r = tt
    fields_shaped (exprs.and_field fs at e) k ts rest r = (fields_before fs k.0 ts r.0 r.1, field_shaped at e r.0 rest (expr_shaped e k.2) r.2)

    binds_before : (bs : Bindings) → BindsBind bs → (ts rest : List Seen) → grammar.BindsBefore OfType OfPattern bs ts rest → AreShapedBinds bs
    binds_before exprs.no_binds k ts rest r = tt
    binds_before (exprs.and_bind bs x e seen) k ts rest r =
        (binds_before bs k.0 ts r.0 r.1, of_pattern r.2.1.front x r.2.1.spelled, expr_shaped e k.2 [] r.2.2.2.1.0 r.2.2.0 r.2.2.2.0 r.2.2.2.1.1)

    binds_shaped : (bs : Bindings) → BindsBind bs → (ts rest : List Seen) → grammar.ReadsBinds OfType OfPattern bs ts rest → AreShapedBinds bs
    binds_shaped exprs.no_binds k ts rest r = tt
    binds_shaped (exprs.and_bind bs x e seen) k ts rest r =
        (binds_before bs k.0 ts r.0 r.1, of_pattern r.2.1.front x r.2.1.spelled, expr_shaped e k.2 [] r.2.2.2.1.0 r.2.2.0 r.2.2.2.0 r.2.2.2.1.1)

    alts_shaped : (choices : Alts) → AltsBind choices → (c : ℕ) (os to : List ℕ) (ts rest : List Seen)
        → grammar.ReadsAlts OfType OfPattern choices c os to ts rest → AreShapedChoices choices
    alts_shaped exprs.no_alts k c os to ts rest r = tt
    alts_shaped (exprs.and_alt exprs.no_alts p head x b) k c os to ts rest r =
        let on = r.4.2 in
        (tt, head_shaped p head x r.4.0 on.0 on.1, expr_shaped b k.2 (c ∷ os) to on.2.0 rest on.2.2)
    alts_shaped (exprs.and_alt (exprs.and_alt choices p' head' x' b') p head x b) k c os to ts rest r =
        let on = r.6.2.2 in
        (alts_shaped (exprs.and_alt choices p' head' x' b') k.0 c os r.0 ts r.6.0 r.6.1, head_shaped p head x r.6.2.0 on.0 on.1, expr_shaped b k.2 (c ∷ os) to on.2.0 rest on.2.2)

  pub spelled_expr_shaped : (ts : List Seen) (e : Expr) → grammar.SpellsExpr OfType OfPattern ts e → IsShapedExpr e
  spelled_expr_shaped ts e s = expr_shaped e s.1 [] s.2.0 ts [] s.2.1
