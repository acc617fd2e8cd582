-- The faults of an expression that the tokens spell stand in order, where those of the types in it do, and the variables of the patterns. Of
-- a reading `r` of parts, one behind the other, `r.0` are the tokens behind the first part, `r.1` is how that is read, and `r.2` how
-- the others are.
use Rattle.std.proofs.Common.{◌≡◌, ℕ, List, [], ◌∷◌, ◌++◌, Option, ⊎_elim, refl, sym, subst, ap, if◌then◌else◌}
use Rattle.cg_base.specs.declared.place.Place.{Place}
use Rattle.cg_core.specs.declared.at.At.{At}
use Rattle.cg_surface.specs.Written.{Written, Writtens}
use Rattle.cg_surface.specs.Written as types
use Rattle.cg_surface.specs.Patterns.{Pattern}
use Rattle.cg_surface.specs.Exprs.{Expr, Exprs, FieldExprs, Binds as Bindings, Alts}
use Rattle.cg_surface.specs.Exprs as exprs
use Rattle.cg_surface.specs.Programs.{Entry}
use Rattle.cg_parser_symbols.specs.Symbols.{Seen}
use Rattle.cg_parser_symbols.specs.Readings.{Reading, IsSpelled}
use Rattle.cg_resolve_def.specs.Declared.{is_among}
use Rattle.cg_resolve_def.specs.Expand.{types_length}
use Rattle.cg_resolve_def.specs.Faults.{NameFault, unknown, all_bound, binds_faults, bound, expr_faults, field_with, list_faults, match_faults, pattern_faults, put_faults, record_faults, seen_faults, type_faults, types_faults, value_names, variables}
use Rattle.cg_parser_exprs_def.specs.Grammar as grammar
use Rattle.cg_parser_laws.proofs.FieldFaults.{alone_stands, field_then}
use Rattle.cg_parser_laws.proofs.Names.{all_told, at_key, fault_key, mention_stands, scoped_stands, told_spans, twins_spans}
use Rattle.cg_parser_laws.proofs.ExprParts.{head_spans, operator_spans, seen_spans, word_spans}
use Rattle.cg_parser_laws.proofs.Spans.{Spans, StandAt, before, behind, front_spans, join, nothing_spans, sign_spans, token_spans, token_with}

-- the faults of observed variables are told one by one
unseen : List (List ℕ) → At → List NameFault
unseen scope n = if is_among scope n.name then [] else unknown n.place ∷ []

seen_told : (scope : List (List ℕ)) (ns : List At) → all_told (unseen scope) ns ≡ seen_faults scope ns
unfolding unseen
seen_told scope [] = refl
seen_told scope (n ∷ ns) = ap (λ es. (if is_among scope n.name then [] else unknown n.place ∷ []) ++ es) (seen_told scope ns)

unseen_stands : (scope : List (List ℕ)) (n : At) → StandAt fault_key n.place (unseen scope n)
unfolding unseen
unseen_stands scope n = scoped_stands scope n.place n.name

module _ (entries : List Entry) (vars : List (List ℕ)) (OfType : List Seen → Written → Type 0) (OfPattern : List Seen → Pattern → Type 0)
    (of_type : (ts : List Seen) (t : Written) → OfType ts t → Spans fault_key (type_faults entries vars t) ts [])
    (of_pattern : (ts : List Seen) (x : Pattern) → OfPattern ts x → Spans at_key (variables x) ts []) where
  abbrev Reads : Expr → List ℕ → List ℕ → Reading
  Reads = grammar.ReadsExpr OfType OfPattern

  abbrev faults : List (List ℕ) → Expr → List NameFault
  faults = expr_faults entries vars

  -- a type, a pattern, and observed variables
  type_spelled : (t : Written) {ts rest : List Seen} → IsSpelled OfType t ts rest → Spans fault_key (type_faults entries vars t) ts rest
  type_spelled t {ts} {rest} r = front_spans r.front ts rest r.parts (of_type r.front t r.spelled)

  pattern_spelled : (x : Pattern) {ts rest : List Seen} → IsSpelled OfPattern x ts rest → Spans fault_key (pattern_faults x) ts rest
  pattern_spelled x {ts} {rest} r = twins_spans [] (variables x) (front_spans r.front ts rest r.parts (of_pattern r.front x r.spelled))

  head_spelled : (p : Place) (head : Option (List ℕ)) (x : Pattern) {ts rest : List Seen} → grammar.ReadsHead OfType OfPattern p head x ts rest → Spans fault_key (pattern_faults x) ts rest
  head_spelled p head x r = twins_spans [] (variables x) (head_spans OfType OfPattern of_pattern p head x r)

  seen_read : (scope : List (List ℕ)) (ns : List At) {ts rest : List Seen} → grammar.ReadsSeen OfType OfPattern ns ts rest → Spans fault_key (seen_faults scope ns) ts rest
  seen_read scope ns {ts} {rest} r =
      subst (λ es. Spans fault_key es ts rest) (seen_told scope ns) (told_spans fault_key (unseen scope) (unseen_stands scope) ns ts rest (seen_spans OfType OfPattern ns r))

  -- type arguments
  args_before : (args : Writtens) {ts rest : List Seen} → grammar.ArgsBefore OfType OfPattern args ts rest → Spans fault_key (types_faults entries vars args) ts rest
  args_before types.no_types r = nothing_spans r
  args_before (types.and_type args t) r = join (args_before args r.1) (behind (type_spelled t r.2.1) (sign_spans r.2.2))

  args_spans : (args : Writtens) {ts rest : List Seen} → grammar.ReadsArgs OfType OfPattern args ts rest → Spans fault_key (types_faults entries vars args) ts rest
  args_spans types.no_types r = nothing_spans r
  args_spans (types.and_type args t) r = join (before (sign_spans r.1) (args_before args r.2.1)) (behind (type_spelled t r.2.2.1) (sign_spans r.2.2.2))

  -- a field of a record, and one that is put
  field_spans : (names scope : List (List ℕ)) (at : At) (e : Expr) {ts rest : List Seen} → ((os to : List ℕ) (from behind : List Seen) → Reads e os to from behind → Spans fault_key (faults scope e) from behind)
      → grammar.FieldAs OfType OfPattern (grammar.WholeBy OfType OfPattern (Reads e)) at e ts rest → Spans fault_key (field_with names at (faults scope e)) ts rest
  field_spans names scope at e {ts} {rest} spans r =
      ⊎_elim (λ f. subst (λ v. Spans fault_key (field_with names at (faults scope v)) ts rest) (sym f.0) (token_with f.1 (alone_stands entries names scope at 0)))
      (λ f. field_then names at f.1 (before (sign_spans f.2.1) (spans [] f.2.2.0 f.2.0 rest f.2.2.1))) r

  put_spans : (scope : List (List ℕ)) (at : At) (e : Expr) {ts rest : List Seen} → ((os to : List ℕ) (from behind : List Seen) → Reads e os to from behind → Spans fault_key (faults scope e) from behind)
      → grammar.FieldAs OfType OfPattern (grammar.WholeBy OfType OfPattern (Reads e)) at e ts rest → Spans fault_key (faults scope e) ts rest
  put_spans scope at e {ts} {rest} spans r =
      ⊎_elim (λ f. subst (λ v. Spans fault_key (faults scope v) ts rest) (sym f.0) (join (token_with f.1 (mention_stands entries scope at.place at.name 0)) (nothing_spans refl)))
      (λ f. before (token_spans f.1) (before (sign_spans f.2.1) (spans [] f.2.2.0 f.2.0 rest f.2.2.1))) r

  mutual
    expr_spans : (e : Expr) (scope : List (List ℕ)) (os to : List ℕ) (ts rest : List Seen) → Reads e os to ts rest → Spans fault_key (faults scope e) ts rest
    expr_spans (exprs.name p n args) scope os to ts rest r = join (token_with r.1.1 (mention_stands entries scope p n (types_length args))) (args_spans args r.1.2)
    expr_spans (exprs.number p v) scope os to ts rest r = token_spans r.1
    expr_spans (exprs.bool p v) scope os to ts rest r = token_spans r.1
    expr_spans (exprs.unit p) scope os to ts rest r = before (token_spans r.1.1) (sign_spans r.1.2)
    expr_spans (exprs.paren p a) scope os to ts rest r = before (token_spans r.1.1) (behind (expr_spans a scope [] r.1.2.1.0 r.1.0 r.1.2.0 r.1.2.1.1) (sign_spans r.1.2.2))
    expr_spans (exprs.sig p a t) scope os to ts rest r =
        let on = r.1.2.2 in
        join (before (token_spans r.1.1) (behind (expr_spans a scope [] r.1.2.1.0 r.1.0 r.1.2.0 r.1.2.1.1) (sign_spans on.1))) (behind (type_spelled t on.2.1) (sign_spans on.2.2))
    expr_spans (exprs.tuple p es) scope os to ts rest r = before (token_spans r.1.1) (behind (list_spans es scope r.1.0 r.1.2.0 r.1.2.1) (sign_spans r.1.2.2))
    expr_spans (exprs.fields p fs) scope os to ts rest r = before (token_spans r.1.1) (behind (fields_spans fs scope r.1.0 r.1.2.0 r.1.2.1) (sign_spans r.1.2.2))
    expr_spans (exprs.con p n) scope os to ts rest r = token_spans r.1
    expr_spans (exprs.con_of p n a) scope os to ts rest r = before (token_spans r.1.1) (expr_spans a scope [] r.1.2.0 r.1.0 rest r.1.2.1)
    expr_spans (exprs.app p f a) scope os to ts rest r = join (expr_spans f scope [] r.2.1.0 ts r.2.0 r.2.1.1) (expr_spans a scope [] r.2.2.0 r.2.0 rest r.2.2.1)
    expr_spans (exprs.member p a at) scope os to ts rest r = behind (expr_spans a scope [] r.2.1.0 ts r.2.0 r.2.1.1) (before (sign_spans r.2.2.1) (token_spans r.2.2.2))
    expr_spans (exprs.put p a fs) scope os to ts rest r =
        let on = r.2.2 in
        join (behind (expr_spans a scope [] r.2.1.0 ts r.2.0 r.2.1.1) (sign_spans on.1)) (behind (puts_spans fs scope on.0 on.2.0 on.2.1) (sign_spans on.2.2))
    expr_spans (exprs.unary p o a) scope os to ts rest r = before (word_spans o p r.1.1) (expr_spans a scope [] r.1.2.0 r.1.0 rest r.1.2.1)
    expr_spans (exprs.upcast p a) scope os to ts rest r = before (token_spans r.1.1) (expr_spans a scope [] r.1.2.0 r.1.0 rest r.1.2.1)
    expr_spans (exprs.binary p o a b) scope os to ts rest r =
        let on = r.1.2 in
        join (expr_spans a scope [] r.1.1.0 ts r.1.0 r.1.1.1) (before (operator_spans o p on.1) (expr_spans b scope [] on.2.0 on.0 rest on.2.1))
    expr_spans (exprs.lets p bs b) scope os to ts rest r =
        before (token_spans r.1) (join (behind (binds_spans bs scope r.0 r.2.0 r.2.1) (sign_spans r.2.2.1)) (expr_spans b (all_bound bs ++ scope) os to r.2.2.0 rest r.2.2.2))
    expr_spans (exprs.if_else p c seen a b) scope os to ts rest r =
        let on = r.2.2 in
        let then_on = on.2.2 in
        let condition : Spans fault_key (faults scope c) ts r.2.0 = before (token_spans r.1) (expr_spans c scope [] r.2.1.0 r.0 r.2.0 r.2.1.1) in
        let observed : Spans fault_key (seen_faults scope seen) r.2.0 on.2.0 = behind (seen_read scope seen on.1) (sign_spans on.2.1) in
        let one : Spans fault_key (faults scope a) on.2.0 then_on.2.0 = behind (expr_spans a scope [] then_on.1.0 on.2.0 then_on.0 then_on.1.1) (sign_spans then_on.2.1) in
        join (join (join condition observed) one) (expr_spans b scope os to then_on.2.0 rest then_on.2.2)
    expr_spans (exprs.match_of p e seen choices) scope os to ts rest r =
        join (join (expr_spans e scope [] r.2.1.0 ts r.2.0 r.2.1.1) (seen_read scope seen r.2.2.1)) (alts_spans choices scope r.1 os to r.2.2.0 rest r.2.2.2)

    exprs_before : (es : Exprs) (scope : List (List ℕ)) (ts rest : List Seen) → grammar.ExprsBefore OfType OfPattern es ts rest → Spans fault_key (list_faults entries vars scope es) ts rest
    exprs_before exprs.no_exprs scope ts rest r = nothing_spans r
    exprs_before (exprs.and_expr es e) scope ts rest r = join (exprs_before es scope ts r.0 r.1) (behind (expr_spans e scope [] r.2.1.0 r.0 r.2.0 r.2.1.1) (sign_spans r.2.2))

    list_spans : (es : Exprs) (scope : List (List ℕ)) (ts rest : List Seen) → grammar.ReadsList OfType OfPattern es ts rest → Spans fault_key (list_faults entries vars scope es) ts rest
    list_spans exprs.no_exprs scope ts rest r = absurd r
    list_spans (exprs.and_expr es e) scope ts rest r = join (exprs_before es scope ts r.0 r.1) (expr_spans e scope [] r.2.0 r.0 rest r.2.1)

    fields_before : (fs : FieldExprs) (scope : List (List ℕ)) (ts rest : List Seen) → grammar.FieldsBefore OfType OfPattern fs ts rest → Spans fault_key (record_faults entries vars scope fs) ts rest
    fields_before exprs.no_fields scope ts rest r = nothing_spans r
    fields_before (exprs.and_field fs at e) scope ts rest r =
        join (fields_before fs scope ts r.0 r.1) (behind (field_spans (value_names fs) scope at e (expr_spans e scope) r.2.1) (sign_spans r.2.2))

    fields_spans : (fs : FieldExprs) (scope : List (List ℕ)) (ts rest : List Seen) → grammar.ReadsFields OfType OfPattern fs ts rest → Spans fault_key (record_faults entries vars scope fs) ts rest
    fields_spans exprs.no_fields scope ts rest r = absurd r
    fields_spans (exprs.and_field fs at e) scope ts rest r = join (fields_before fs scope ts r.0 r.1) (field_spans (value_names fs) scope at e (expr_spans e scope) r.2)

    puts_before : (fs : FieldExprs) (scope : List (List ℕ)) (ts rest : List Seen) → grammar.FieldsBefore OfType OfPattern fs ts rest → Spans fault_key (put_faults entries vars scope fs) ts rest
    puts_before exprs.no_fields scope ts rest r = nothing_spans r
    puts_before (exprs.and_field fs at e) scope ts rest r = join (puts_before fs scope ts r.0 r.1) (behind (put_spans scope at e (expr_spans e scope) r.2.1) (sign_spans r.2.2))

    puts_spans : (fs : FieldExprs) (scope : List (List ℕ)) (ts rest : List Seen) → grammar.ReadsFields OfType OfPattern fs ts rest → Spans fault_key (put_faults entries vars scope fs) ts rest
    puts_spans exprs.no_fields scope ts rest r = absurd r
    puts_spans (exprs.and_field fs at e) scope ts rest r = join (puts_before fs scope ts r.0 r.1) (put_spans scope at e (expr_spans e scope) r.2)

    binds_before : (bs : Bindings) (scope : List (List ℕ)) (ts rest : List Seen) → grammar.BindsBefore OfType OfPattern bs ts rest → Spans fault_key (binds_faults entries vars scope bs) ts rest
    binds_before exprs.no_binds scope ts rest r = nothing_spans r
    binds_before (exprs.and_bind bs x e seen) scope ts rest r =
        let on = r.2.2 in
        let inside : List (List ℕ) = all_bound bs ++ scope in
        join
        (join (join (binds_before bs scope ts r.0 r.1) (behind (pattern_spelled x r.2.1) (sign_spans on.1))) (expr_spans e inside [] on.2.1.0 on.0 on.2.0 on.2.1.1))
        (behind (seen_read inside seen on.2.2.1) (sign_spans on.2.2.2))

    binds_spans : (bs : Bindings) (scope : List (List ℕ)) (ts rest : List Seen) → grammar.ReadsBinds OfType OfPattern bs ts rest → Spans fault_key (binds_faults entries vars scope bs) ts rest
    binds_spans exprs.no_binds scope ts rest r = absurd r
    binds_spans (exprs.and_bind bs x e seen) scope ts rest r =
        let on = r.2.2 in
        let inside : List (List ℕ) = all_bound bs ++ scope in
        join
        (join (join (binds_before bs scope ts r.0 r.1) (behind (pattern_spelled x r.2.1) (sign_spans on.1))) (expr_spans e inside [] on.2.1.0 on.0 on.2.0 on.2.1.1))
        (seen_read inside seen on.2.2)

    alts_spans : (choices : Alts) (scope : List (List ℕ)) (c : ℕ) (os to : List ℕ) (ts rest : List Seen) → grammar.ReadsAlts OfType OfPattern choices c os to ts rest
        → Spans fault_key (match_faults entries vars scope choices) ts rest
    alts_spans exprs.no_alts scope c os to ts rest r = absurd r
    alts_spans (exprs.and_alt exprs.no_alts p head x b) scope c os to ts rest r =
        let on = r.4.2 in
        join (before (token_spans r.4.1) (behind (head_spelled p head x on.1) (sign_spans on.2.1))) (expr_spans b (bound x ++ scope) (c ∷ os) to on.2.0 rest on.2.2)
    alts_spans (exprs.and_alt (exprs.and_alt choices p' head' x' b') p head x b) scope c os to ts rest r =
        let on = r.6.2.2 in
        join
        (join (alts_spans (exprs.and_alt choices p' head' x' b') scope c os r.0 ts r.6.0 r.6.1) (before (token_spans r.6.2.1) (behind (head_spelled p head x on.1) (sign_spans on.2.1))))
        (expr_spans b (bound x ++ scope) (c ∷ os) to on.2.0 rest on.2.2)

  pub spelled_expr_spans : (scope : List (List ℕ)) (ts : List Seen) (e : Expr) → grammar.SpellsExpr OfType OfPattern ts e → Spans fault_key (faults scope e) ts []
  spelled_expr_spans scope ts e s = expr_spans e scope [] s.2.0 ts [] s.2.1
