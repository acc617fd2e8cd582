-- Faults depend on the names in scope, and not on their order.
use Rattle.std.proofs.Common.{◌≡◌, ℕ, ◌||◌, List, [], ◌∷◌, ◌++◌, sym, ap, ◌∙◌, refl, if◌then◌else◌}
use Rattle.std.specs.Str.{bytes_eq}
use Rattle.cg_core.specs.declared.at.At.{At}
use Rattle.cg_surface.specs.Written.{Written, Writtens, WrittenFields, WrittenAlts}
use Rattle.cg_surface.specs.Written as types
use Rattle.cg_surface.specs.Exprs.{Expr, Exprs, FieldExprs, Binds, Alts}
use Rattle.cg_surface.specs.Exprs as exprs
use Rattle.cg_surface.specs.Programs.{Entry}
use Rattle.cg_resolve_def.specs.Declared.{is_among, is_variable, type_arity, library, looked_up, function_named}
use Rattle.cg_resolve_def.specs.Expand.{types_length}
use Rattle.cg_resolve_def.specs.Faults.{NameFault, unknown, twice, again, field_with, twins, counted, field_names, alt_names, bound, all_bound, pattern_faults, function_faults, seen_faults, value_names, type_name_faults, type_faults, types_faults, fields_faults, alts_faults, name_faults, mention_faults, expr_faults, list_faults, record_faults, put_faults, binds_faults, match_faults}
use Rattle.cg_resolve_names.specs.Scopes.{SameNames}
use Rattle.cg_resolve_names.proofs.ScopeSteps.{among_append}

-- two lists of faults, each pair alike
both : (a a' b b' : List NameFault) → a ≡ a' → b ≡ b' → a ++ b ≡ a' ++ b'
both a a' b b' e f = ap (λ l. l ++ b) e ∙ ap (λ l. a' ++ l) f

three : (a a' b b' c c' : List NameFault) → a ≡ a' → b ≡ b' → c ≡ c' → a ++ b ++ c ≡ a' ++ b' ++ c'
three a a' b b' c c' e f g = both (a ++ b) (a' ++ b') c c' (both a a' b b' e f) g

pub more_behind : (front : List (List ℕ)) (names others : List (List ℕ)) → SameNames names others → SameNames (front ++ names) (front ++ others)
more_behind front names others same = λ n. among_append front names n ∙ ap (λ b. is_among front n || b) (same n) ∙ sym (among_append front others n)

-- ---- types

module _ (entries : List Entry) (names others : List (List ℕ)) (same : SameNames names others) where
  mutual
    pub type_same : (t : Written) → type_faults entries names t ≡ type_faults entries others t
    type_same (types.named p n args) =
        both (name_faults entries names p n (types_length args)) (name_faults entries others p n (types_length args)) _ _
        (ap (λ b. if is_variable n then (if b then counted p 0 (types_length args) else unknown p ∷ []) else type_name_faults p (types_length args) (type_arity entries n)) (same n)) (types_same args)
    type_same (types.nothing p) = refl
    type_same (types.tuple p ts) = types_same ts
    type_same (types.paren p t) = type_same t
    type_same (types.arrow p a b) = both _ _ _ _ (type_same a) (type_same b)
    type_same (types.fields p boxed fs) = fields_same fs
    type_same (types.variant p choices) = alts_same choices
    type_same (types.bang p t) = type_same t
    type_same (types.take_some p t ns) = type_same t
    type_same (types.take_all p t q) = type_same t

    pub types_same : (ts : Writtens) → types_faults entries names ts ≡ types_faults entries others ts
    types_same types.no_types = refl
    types_same (types.and_type ts t) = both _ _ _ _ (types_same ts) (type_same t)

    fields_same : (fs : WrittenFields) → fields_faults entries names fs ≡ fields_faults entries others fs
    fields_same types.no_fields = refl
    fields_same (types.and_field fs at t) = three _ _ (again (field_names fs) at.place at.name) (again (field_names fs) at.place at.name) _ _ (fields_same fs) refl (type_same t)

    alts_same : (choices : WrittenAlts) → alts_faults entries names choices ≡ alts_faults entries others choices
    alts_same types.no_alts = refl
    alts_same (types.and_plain choices at) = both _ _ _ _ (alts_same choices) refl
    alts_same (types.and_alt choices at t) = three _ _ (again (alt_names choices) at.place at.name) (again (alt_names choices) at.place at.name) _ _ (alts_same choices) refl (type_same t)

-- ---- expressions

-- observed variables
pub seen_same : (names others : List (List ℕ)) → SameNames names others → (ats : List At) → seen_faults names ats ≡ seen_faults others ats
seen_same names others same [] = refl
seen_same names others same (at ∷ ats) = both _ _ _ _ (ap (λ b. if b then [] else unknown at.place ∷ []) (same at.name)) (seen_same names others same ats)

module _ (entries : List Entry) (vars vars' : List (List ℕ)) (alike : SameNames vars vars') where
  mutual
    pub expr_same : (names others : List (List ℕ)) → SameNames names others → (e : Expr) → expr_faults entries vars names e ≡ expr_faults entries vars' others e
    expr_same names others same (exprs.name p n ts) =
        both (mention_faults entries names p n (types_length ts)) (mention_faults entries others p n (types_length ts)) _ _
        (ap (λ b. if b then counted p 0 (types_length ts) else function_faults p (types_length ts) (looked_up library n) (function_named entries n)) (same n)) (types_same entries vars vars' alike ts)
    expr_same names others same (exprs.number p v) = refl
    expr_same names others same (exprs.bool p b) = refl
    expr_same names others same (exprs.unit p) = refl
    expr_same names others same (exprs.paren p a) = expr_same names others same a
    expr_same names others same (exprs.sig p a t) = both _ _ _ _ (expr_same names others same a) (type_same entries vars vars' alike t)
    expr_same names others same (exprs.tuple p es) = list_same names others same es
    expr_same names others same (exprs.fields p fs) = record_same names others same fs
    expr_same names others same (exprs.con p n) = refl
    expr_same names others same (exprs.con_of p n a) = expr_same names others same a
    expr_same names others same (exprs.app p f a) = both _ _ _ _ (expr_same names others same f) (expr_same names others same a)
    expr_same names others same (exprs.member p a at) = expr_same names others same a
    expr_same names others same (exprs.put p a fs) = both _ _ _ _ (expr_same names others same a) (put_same names others same fs)
    expr_same names others same (exprs.unary p o a) = expr_same names others same a
    expr_same names others same (exprs.upcast p a) = expr_same names others same a
    expr_same names others same (exprs.binary p o a b) = both _ _ _ _ (expr_same names others same a) (expr_same names others same b)
    expr_same names others same (exprs.lets p bs b) =
        both _ _ _ _ (binds_same names others same bs) (expr_same (all_bound bs ++ names) (all_bound bs ++ others) (more_behind (all_bound bs) names others same) b)
    expr_same names others same (exprs.if_else p c seen a b) =
        both _ _ _ _ (three _ _ _ _ _ _ (expr_same names others same c) (seen_same names others same seen) (expr_same names others same a)) (expr_same names others same b)
    expr_same names others same (exprs.match_of p e seen choices) =
        three _ _ _ _ _ _ (expr_same names others same e) (seen_same names others same seen) (match_same names others same choices)

    list_same : (names others : List (List ℕ)) → SameNames names others → (es : Exprs) → list_faults entries vars names es ≡ list_faults entries vars' others es
    list_same names others same exprs.no_exprs = refl
    list_same names others same (exprs.and_expr es e) = both _ _ _ _ (list_same names others same es) (expr_same names others same e)

    record_same : (names others : List (List ℕ)) → SameNames names others → (fs : FieldExprs) → record_faults entries vars names fs ≡ record_faults entries vars' others fs
    record_same names others same exprs.no_fields = refl
    record_same names others same (exprs.and_field fs at e) = both _ _ _ _ (record_same names others same fs) (ap (field_with (value_names fs) at) (expr_same names others same e))

    put_same : (names others : List (List ℕ)) → SameNames names others → (fs : FieldExprs) → put_faults entries vars names fs ≡ put_faults entries vars' others fs
    put_same names others same exprs.no_fields = refl
    put_same names others same (exprs.and_field fs at e) = both _ _ _ _ (put_same names others same fs) (expr_same names others same e)

    pub binds_same : (names others : List (List ℕ)) → SameNames names others → (bs : Binds) → binds_faults entries vars names bs ≡ binds_faults entries vars' others bs
    binds_same names others same exprs.no_binds = refl
    binds_same names others same (exprs.and_bind bs x e seen) =
        both _ _ _ _
        (three _ _ (pattern_faults x) (pattern_faults x) _ _ (binds_same names others same bs) refl (expr_same (all_bound bs ++ names) (all_bound bs ++ others) (more_behind (all_bound bs) names others same) e))
        (seen_same (all_bound bs ++ names) (all_bound bs ++ others) (more_behind (all_bound bs) names others same) seen)

    match_same : (names others : List (List ℕ)) → SameNames names others → (choices : Alts) → match_faults entries vars names choices ≡ match_faults entries vars' others choices
    match_same names others same exprs.no_alts = refl
    match_same names others same (exprs.and_alt choices p con x b) =
        three _ _ (pattern_faults x) (pattern_faults x) _ _ (match_same names others same choices) refl (expr_same (bound x ++ names) (bound x ++ others) (more_behind (bound x) names others same) b)

-- ---- names that have to be apart

pub twins_same : (names others : List (List ℕ)) → SameNames names others → (ats : List At) → twins names ats ≡ twins others ats
twins_same names others same [] = refl
twins_same names others same (at ∷ ats) =
    both _ _ _ _ (ap (λ b. if b then twice at.place ∷ [] else []) (same at.name)) (twins_same (at.name ∷ names) (at.name ∷ others) (λ n. ap (λ b. bytes_eq n at.name || b) (same n)) ats)
