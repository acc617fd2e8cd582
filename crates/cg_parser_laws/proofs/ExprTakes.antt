-- The places of N5 in the types of an expression that the tokens spell stand in order, where those of each type do. Of a reading `r` of
-- parts, one behind the other, `r.0` are the tokens behind the first part, `r.1` is how that is read, and `r.2` how the others
-- are.
use Rattle.std.proofs.Common.{◌≡◌, ℕ, List, [], ◌∷◌, ◌++◌, Option, ⊎_elim, refl, sym, subst, ap, ◌∙◌, append-nil, append_assoc, map}
use Rattle.cg_base.specs.declared.place.Place.{Place}
use Rattle.cg_core.specs.declared.at.At.{At}
use Rattle.cg_surface.specs.Written.{Written, Writtens}
use Rattle.cg_surface.specs.Written as types
use Rattle.cg_surface.specs.Patterns.{Pattern}
use Rattle.cg_surface.specs.Exprs.{Expr, Exprs, FieldExprs, Binds as Bindings, Alts}
use Rattle.cg_surface.specs.Exprs as exprs
use Rattle.cg_parser_symbols.specs.Symbols.{Seen}
use Rattle.cg_parser_symbols.specs.Readings.{Reading, IsSpelled}
use Rattle.cg_resolve_def.specs.Expand.{Bodies}
use Rattle.cg_resolve_def.specs.Faults.{variables}
use Rattle.cg_resolve_def.specs.Takes.{listed, missing_from, take_faults, types_in, types_in_alts, types_in_binds, types_in_fields, types_in_list, with_vars}
use Rattle.cg_parser_exprs_def.specs.Grammar as grammar
use Rattle.cg_parser_laws.proofs.Names.{at_key, place_key}
use Rattle.cg_parser_laws.proofs.ExprParts.{head_spans, operator_spans, seen_spans, word_spans}
use Rattle.cg_parser_laws.proofs.Spans.{Spans, before, behind, front_spans, join, nothing_spans, sign_spans, silent, token_spans}

module _ (known : Bodies) (vars : List (List ℕ)) (OfType : List Seen → Written → Type 0) (OfPattern : List Seen → Pattern → Type 0)
    (of_type : (ts : List Seen) (t : Written) → OfType ts t → Spans place_key (take_faults known vars t) ts [])
    (of_pattern : (ts : List Seen) (x : Pattern) → OfPattern ts x → Spans at_key (variables x) ts []) where
  abbrev Reads : Expr → List ℕ → List ℕ → Reading
  Reads = grammar.ReadsExpr OfType OfPattern

  -- the places of N5 in types, one behind the other
  abbrev takes : List Written → List Place
  takes ws = missing_from known (map (with_vars vars) ws)

  takes_then : (vs ws : List Written) → takes vs ++ takes ws ≡ takes (vs ++ ws)
  takes_then [] ws = refl
  takes_then (v ∷ vs) ws = append_assoc (take_faults known vars v) (takes vs) (takes ws) ∙ ap (λ ps. take_faults known vars v ++ ps) (takes_then vs ws)

  both : (vs ws : List Written) {ts mid rest : List Seen} → Spans place_key (takes vs) ts mid → Spans place_key (takes ws) mid rest → Spans place_key (takes (vs ++ ws)) ts rest
  both vs ws {ts} {mid} {rest} a b = subst (λ ps. Spans place_key ps ts rest) (takes_then vs ws) (join a b)

  -- a type, a pattern, and observed variables
  type_spelled : (t : Written) {ts rest : List Seen} → IsSpelled OfType t ts rest → Spans place_key (takes (t ∷ [])) ts rest
  type_spelled t {ts} {rest} r =
      subst (λ ps. Spans place_key ps ts rest) (sym (append-nil (take_faults known vars t))) (front_spans r.front ts rest r.parts (of_type r.front t r.spelled))

  pattern_spelled : (x : Pattern) {ts rest : List Seen} → IsSpelled OfPattern x ts rest → Spans place_key [] ts rest
  pattern_spelled x {ts} {rest} r = silent (front_spans r.front ts rest r.parts (of_pattern r.front x r.spelled))

  head_spelled : (p : Place) (head : Option (List ℕ)) (x : Pattern) {ts rest : List Seen} → grammar.ReadsHead OfType OfPattern p head x ts rest → Spans place_key [] ts rest
  head_spelled p head x r = silent (head_spans OfType OfPattern of_pattern p head x r)

  seen_read : (ns : List At) {ts rest : List Seen} → grammar.ReadsSeen OfType OfPattern ns ts rest → Spans place_key [] ts rest
  seen_read ns r = silent (seen_spans OfType OfPattern ns r)

  -- type arguments
  args_before : (args : Writtens) {ts rest : List Seen} → grammar.ArgsBefore OfType OfPattern args ts rest → Spans place_key (takes (listed args)) ts rest
  args_before types.no_types r = nothing_spans r
  args_before (types.and_type args t) r = both (listed args) (t ∷ []) (args_before args r.1) (behind (type_spelled t r.2.1) (sign_spans r.2.2))

  args_spans : (args : Writtens) {ts rest : List Seen} → grammar.ReadsArgs OfType OfPattern args ts rest → Spans place_key (takes (listed args)) ts rest
  args_spans types.no_types r = nothing_spans r
  args_spans (types.and_type args t) r = both (listed args) (t ∷ []) (before (sign_spans r.1) (args_before args r.2.1)) (behind (type_spelled t r.2.2.1) (sign_spans r.2.2.2))

  -- a field
  field_takes : (at : At) (e : Expr) {ts rest : List Seen} → ((os to : List ℕ) (from behind : List Seen) → Reads e os to from behind → Spans place_key (takes (types_in e)) from behind)
      → grammar.FieldAs OfType OfPattern (grammar.WholeBy OfType OfPattern (Reads e)) at e ts rest → Spans place_key (takes (types_in e)) ts rest
  field_takes at e {ts} {rest} spans r =
      ⊎_elim (λ f. subst (λ v. Spans place_key (takes (types_in v)) ts rest) (sym f.0) (token_spans f.1))
      (λ f. before (token_spans f.1) (before (sign_spans f.2.1) (spans [] f.2.2.0 f.2.0 rest f.2.2.1))) r

  mutual
    expr_takes : (e : Expr) (os to : List ℕ) (ts rest : List Seen) → Reads e os to ts rest → Spans place_key (takes (types_in e)) ts rest
    expr_takes (exprs.name p n args) os to ts rest r = before (token_spans r.1.1) (args_spans args r.1.2)
    expr_takes (exprs.number p v) os to ts rest r = token_spans r.1
    expr_takes (exprs.bool p v) os to ts rest r = token_spans r.1
    expr_takes (exprs.unit p) os to ts rest r = before (token_spans r.1.1) (sign_spans r.1.2)
    expr_takes (exprs.paren p a) os to ts rest r = before (token_spans r.1.1) (behind (expr_takes a [] r.1.2.1.0 r.1.0 r.1.2.0 r.1.2.1.1) (sign_spans r.1.2.2))
    expr_takes (exprs.sig p a t) os to ts rest r =
        let on = r.1.2.2 in
        both (types_in a) (t ∷ []) (before (token_spans r.1.1) (behind (expr_takes a [] r.1.2.1.0 r.1.0 r.1.2.0 r.1.2.1.1) (sign_spans on.1))) (behind (type_spelled t on.2.1) (sign_spans on.2.2))
    expr_takes (exprs.tuple p es) os to ts rest r = before (token_spans r.1.1) (behind (list_takes es r.1.0 r.1.2.0 r.1.2.1) (sign_spans r.1.2.2))
    expr_takes (exprs.fields p fs) os to ts rest r = before (token_spans r.1.1) (behind (fields_takes fs r.1.0 r.1.2.0 r.1.2.1) (sign_spans r.1.2.2))
    expr_takes (exprs.con p n) os to ts rest r = token_spans r.1
    expr_takes (exprs.con_of p n a) os to ts rest r = before (token_spans r.1.1) (expr_takes a [] r.1.2.0 r.1.0 rest r.1.2.1)
    expr_takes (exprs.app p f a) os to ts rest r = both (types_in f) (types_in a) (expr_takes f [] r.2.1.0 ts r.2.0 r.2.1.1) (expr_takes a [] r.2.2.0 r.2.0 rest r.2.2.1)
    expr_takes (exprs.member p a at) os to ts rest r = behind (expr_takes a [] r.2.1.0 ts r.2.0 r.2.1.1) (before (sign_spans r.2.2.1) (token_spans r.2.2.2))
    expr_takes (exprs.put p a fs) os to ts rest r =
        let on = r.2.2 in
        both (types_in a) (types_in_fields fs) (behind (expr_takes a [] r.2.1.0 ts r.2.0 r.2.1.1) (sign_spans on.1)) (behind (fields_takes fs on.0 on.2.0 on.2.1) (sign_spans on.2.2))
    expr_takes (exprs.unary p o a) os to ts rest r = before (word_spans o p r.1.1) (expr_takes a [] r.1.2.0 r.1.0 rest r.1.2.1)
    expr_takes (exprs.upcast p a) os to ts rest r = before (token_spans r.1.1) (expr_takes a [] r.1.2.0 r.1.0 rest r.1.2.1)
    expr_takes (exprs.binary p o a b) os to ts rest r =
        let on = r.1.2 in
        both (types_in a) (types_in b) (expr_takes a [] r.1.1.0 ts r.1.0 r.1.1.1) (before (operator_spans o p on.1) (expr_takes b [] on.2.0 on.0 rest on.2.1))
    expr_takes (exprs.lets p bs b) os to ts rest r =
        before (token_spans r.1) (both (types_in_binds bs) (types_in b) (behind (binds_takes bs r.0 r.2.0 r.2.1) (sign_spans r.2.2.1)) (expr_takes b os to r.2.2.0 rest r.2.2.2))
    expr_takes (exprs.if_else p c seen a b) os to ts rest r =
        let on = r.2.2 in
        let then_on = on.2.2 in
        let condition : Spans place_key (takes (types_in c)) ts on.2.0 =
        before (token_spans r.1) (behind (expr_takes c [] r.2.1.0 r.0 r.2.0 r.2.1.1) (before (seen_read seen on.1) (sign_spans on.2.1))) in
        let one : Spans place_key (takes (types_in a)) on.2.0 then_on.2.0 = behind (expr_takes a [] then_on.1.0 on.2.0 then_on.0 then_on.1.1) (sign_spans then_on.2.1) in
        both (types_in c ++ types_in a) (types_in b) (both (types_in c) (types_in a) condition one) (expr_takes b os to then_on.2.0 rest then_on.2.2)
    expr_takes (exprs.match_of p e seen choices) os to ts rest r =
        both (types_in e) (types_in_alts choices) (behind (expr_takes e [] r.2.1.0 ts r.2.0 r.2.1.1) (seen_read seen r.2.2.1)) (alts_takes choices r.1 os to r.2.2.0 rest r.2.2.2)

    exprs_before : (es : Exprs) (ts rest : List Seen) → grammar.ExprsBefore OfType OfPattern es ts rest → Spans place_key (takes (types_in_list es)) ts rest
    exprs_before exprs.no_exprs ts rest r = nothing_spans r
    exprs_before (exprs.and_expr es e) ts rest r =
        both (types_in_list es) (types_in e) (exprs_before es ts r.0 r.1) (behind (expr_takes e [] r.2.1.0 r.0 r.2.0 r.2.1.1) (sign_spans r.2.2))

    list_takes : (es : Exprs) (ts rest : List Seen) → grammar.ReadsList OfType OfPattern es ts rest → Spans place_key (takes (types_in_list es)) ts rest
    list_takes exprs.no_exprs ts rest r = absurd r
    list_takes (exprs.and_expr es e) ts rest r = both (types_in_list es) (types_in e) (exprs_before es ts r.0 r.1) (expr_takes e [] r.2.0 r.0 rest r.2.1)

    fields_before : (fs : FieldExprs) (ts rest : List Seen) → grammar.FieldsBefore OfType OfPattern fs ts rest → Spans place_key (takes (types_in_fields fs)) ts rest
    fields_before exprs.no_fields ts rest r = nothing_spans r
    fields_before (exprs.and_field fs at e) ts rest r =
        both (types_in_fields fs) (types_in e) (fields_before fs ts r.0 r.1) (behind (field_takes at e (expr_takes e) r.2.1) (sign_spans r.2.2))

    fields_takes : (fs : FieldExprs) (ts rest : List Seen) → grammar.ReadsFields OfType OfPattern fs ts rest → Spans place_key (takes (types_in_fields fs)) ts rest
    fields_takes exprs.no_fields ts rest r = absurd r
    fields_takes (exprs.and_field fs at e) ts rest r = both (types_in_fields fs) (types_in e) (fields_before fs ts r.0 r.1) (field_takes at e (expr_takes e) r.2)

    binds_before : (bs : Bindings) (ts rest : List Seen) → grammar.BindsBefore OfType OfPattern bs ts rest → Spans place_key (takes (types_in_binds bs)) ts rest
    binds_before exprs.no_binds ts rest r = nothing_spans r
    binds_before (exprs.and_bind bs x e seen) ts rest r =
        let on = r.2.2 in
        both (types_in_binds bs) (types_in e) (behind (binds_before bs ts r.0 r.1) (before (pattern_spelled x r.2.1) (sign_spans on.1)))
        (behind (expr_takes e [] on.2.1.0 on.0 on.2.0 on.2.1.1) (before (seen_read seen on.2.2.1) (sign_spans on.2.2.2)))

    binds_takes : (bs : Bindings) (ts rest : List Seen) → grammar.ReadsBinds OfType OfPattern bs ts rest → Spans place_key (takes (types_in_binds bs)) ts rest
    binds_takes exprs.no_binds ts rest r = absurd r
    binds_takes (exprs.and_bind bs x e seen) ts rest r =
        let on = r.2.2 in
        both (types_in_binds bs) (types_in e) (behind (binds_before bs ts r.0 r.1) (before (pattern_spelled x r.2.1) (sign_spans on.1)))
        (behind (expr_takes e [] on.2.1.0 on.0 on.2.0 on.2.1.1) (seen_read seen on.2.2))

    alts_takes : (choices : Alts) (c : ℕ) (os to : List ℕ) (ts rest : List Seen) → grammar.ReadsAlts OfType OfPattern choices c os to ts rest → Spans place_key (takes (types_in_alts choices)) ts rest
    alts_takes exprs.no_alts c os to ts rest r = absurd r
    alts_takes (exprs.and_alt exprs.no_alts p head x b) c os to ts rest r =
        let on = r.4.2 in
        before (token_spans r.4.1) (before (head_spelled p head x on.1) (before (sign_spans on.2.1) (expr_takes b (c ∷ os) to on.2.0 rest on.2.2)))
    alts_takes (exprs.and_alt (exprs.and_alt choices p' head' x' b') p head x b) c os to ts rest r =
        let on = r.6.2.2 in
        both (types_in_alts (exprs.and_alt choices p' head' x' b')) (types_in b) (alts_takes (exprs.and_alt choices p' head' x' b') c os r.0 ts r.6.0 r.6.1)
        (before (token_spans r.6.2.1) (before (head_spelled p head x on.1) (before (sign_spans on.2.1) (expr_takes b (c ∷ os) to on.2.0 rest on.2.2))))

  pub spelled_expr_takes : (ts : List Seen) (e : Expr) → grammar.SpellsExpr OfType OfPattern ts e → Spans place_key (takes (types_in e)) ts []
  spelled_expr_takes ts e s = expr_takes e [] s.2.0 ts [] s.2.1
