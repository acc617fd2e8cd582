-- What terms are by the forms of expressions, and answers for those that are made at a site.
use Rattle.std.proofs.Common.{◌≡◌, ℕ, ◌+◌, ◌<◌, ◌≤◌, List, [], map, length, Option, Some, None, Result, refl, sym, ap, subst, arith}
use Rattle.std.proofs.lemmas.List.{length-map}
use Rattle.std.proofs.Math.Path.{fun_ext}
use Rattle.std.specs.Result.{IsErrAnd}
use Rattle.cg_base.specs.declared.items.Items.{Items}
use Rattle.cg_base.specs.declared.place.Place.{Place}
use Rattle.cg_core.specs.declared.at.At.{At}
use Rattle.cg_core.specs.declared.term.Term as code
use Rattle.cg_core.specs.Kernels.{the_term}
use Rattle.cg_core.specs.Terms as kernel
use Rattle.cg_surface.specs.declared.expr.Alt.{Alt}
use Rattle.cg_surface.specs.declared.expr.Bind.{Bind}
use Rattle.cg_surface.specs.declared.expr.FExpr.{FExpr}
use Rattle.cg_surface.specs.declared.expr.SExpr.{SExpr}
use Rattle.cg_surface.specs.Exprs.{Expr, expr_of, bind_of, alt_of, field_of, to_binds, to_alts, to_fields, lets, if_else, match_of}
use Rattle.cg_resolve_def.specs.Desugar.{depth_of, term_limit}
use Rattle.cg_resolve_def.specs.Expand.{bodies}
use Rattle.cg_resolve_def.specs.Terms.{Scope, Term, first_place, observed}
use Rattle.cg_resolve_sites.specs.declared.fault.TermFault.{TermFault}
use Rattle.cg_resolve_sites.specs.declared.frames.Site.{Site}
use Rattle.cg_resolve_sites.specs.Answers.{Says}
use Rattle.cg_resolve_sites.specs.Sites.{scope_of, scope_in, inside, level, Moved, IsTooDeep, Refuses}
use Rattle.cg_resolve_sites.specs.Stands.{under_choices, Uses}
use Rattle.cg_resolve_sites.proofs.FrameLaws.{inside_deep}
use Rattle.cg_resolve_sites.proofs.SiteLaws.{weaker}
use Rattle.cg_resolve_nodes.specs.declared.names.Names.{Names}
use Rattle.cg_resolve_nodes.specs.Names.{entries_in, vars_in}
use Rattle.cg_resolve_terms.specs.Answers.{Looked}
use Rattle.cg_resolve_terms.specs.Terms.{term_in, binds_in, puts_in, choices_in}
use Rattle.cg_resolve_terms.proofs.ExprLaws.{bindings_are, alternatives_are, puts_none, puts_deep, choices_under, choices_alike}
use Rattle.cg_resolve_terms.proofs.LookLaws.{branched, branched_uses, looked_says, looked_over}
use Rattle.cg_resolve_terms.proofs.TermLaws.{made_says, made_over}
use Rattle.cg_resolve_terms.proofs.TermSteps.{err_says}
use denote.Ref.{Bor}

-- ---- by the form

module _ (names : Names) (place : Place) (scope : Scope) where
  let_is : (binds : Items Bind) (body : SExpr) → term_in names scope (lets place (to_binds (map bind_of binds)) (expr_of body)) ≡ binds_in names place (map bind_of binds) scope (λ s. term_in names s (expr_of body))
  let_is binds body = bindings_are (entries_in names) (bodies (entries_in names)) (vars_in names) place (map bind_of binds) scope (λ s. term_in names s (expr_of body))

  match_is : (value : SExpr) (seen : Items At) (choices : Items Alt)
      → term_in names scope (match_of place (expr_of value) seen (to_alts (map alt_of choices)))
      ≡ observed place (first_place (expr_of value)) (term_in names scope (expr_of value)) seen scope (choices_in names (map alt_of choices))
  match_is value seen choices =
      ap (observed place (first_place (expr_of value)) (term_in names scope (expr_of value)) seen scope)
      (fun_ext (λ subject. fun_ext (λ s. alternatives_are (entries_in names) (bodies (entries_in names)) (vars_in names) (map alt_of choices) subject s)))

-- ---- puts

pub put_err : (names : Names) (place : Place) (scope : Scope) (whole : SExpr) (fields : Items FExpr) (above n : ℕ) (fault : TermFault) (r : Result (code.Term Place) TermFault)
    → n ≡ length fields → IsErrAnd r (λ e. e ≡ fault) → Refuses fault (term_limit < above + n + depth_of (term_in names scope (expr_of whole)))
    → Says above (puts_in names place scope (term_in names scope (expr_of whole)) (to_fields (map field_of fields))) r
put_err names place scope whole fields above n fault r count err refuses =
    err_says above (above + n + depth_of (term_in names scope (expr_of whole))) (puts_in names place scope (term_in names scope (expr_of whole)) (to_fields (map field_of fields))) fault r err refuses
    (omega (
      arith,
      count,
      length-map fields field_of,
      puts_deep (entries_in names) (bodies (entries_in names)) (vars_in names) place scope (term_in names scope (expr_of whole)) [] (map field_of fields),
      ap depth_of (puts_none (entries_in names) (bodies (entries_in names)) (vars_in names) place scope (term_in names scope (expr_of whole))),
    ))

-- ---- branches

module _ (b : Site) (place : Place) (s branch other : Term) (fault : TermFault) (r : Result (code.Term Place) TermFault) (err : IsErrAnd r (λ y. y ≡ fault)) where
  part_deep : (whole part : Term) → 1 + depth_of part ≤ depth_of whole → Refuses fault (term_limit < level b + 1 + depth_of part) → Says b.above (inside b whole) r
  part_deep whole part within refuses =
      err_says b.above (b.above + depth_of (inside b whole)) (inside b whole) fault r err (weaker fault _ _ refuses (λ over. omega (arith, over, within, inside_deep b.frames.items whole))) (omega arith)

  pub branch_deep : Refuses fault (term_limit < level b + 1 + depth_of branch) → Says b.above (inside b (kernel.term place (kernel.if_else s branch other))) r
  branch_deep refuses = part_deep (kernel.term place (kernel.if_else s branch other)) branch (omega arith) refuses

  pub other_deep : Refuses fault (term_limit < level b + 1 + depth_of other) → Says b.above (inside b (kernel.term place (kernel.if_else s branch other))) r
  other_deep refuses = part_deep (kernel.term place (kernel.if_else s branch other)) other (omega arith) refuses

-- ---- at a site

module _ (names : Names) (place : Place) (entries : List (Option (Bor (List ℕ)))) (above : ℕ) (a b : Site) (none : a.frames.items ≡ []) (same : a.above ≡ above) (scope : a.scope.items ≡ entries) where
  -- by the scope of the site
  at_site : (e : Expr) (t : Term) (r : Result (code.Term Place) TermFault) → term_in names (scope_in a) e ≡ t → Says a.above t r → Says above (term_in names (scope_of entries) e) r
  at_site e t r is says =
      subst (λ n. Says n (term_in names (scope_of entries) e) r) same
      (subst (λ l. Says a.above (term_in names (scope_of l) e) r) scope (subst (λ u. Says a.above u r) (sym is) says))

  -- what is too deep there
  over_site : (e : Expr) (t : Term) (fault : TermFault) (r : Result (code.Term Place) TermFault) → term_in names (scope_in a) e ≡ t → IsErrAnd r (λ y. y ≡ fault)
      → Refuses fault (term_limit < a.above + depth_of t) → Says above (term_in names (scope_of entries) e) r
  over_site e t fault r is err refuses = at_site e t r is (err_says a.above (a.above + depth_of t) t fault r err refuses (omega arith))

  -- bindings
  module _ (binds : Items Bind) (body : SExpr) where
    pub let_says : (r : Result (code.Term Place) TermFault) → Moved a (binds_in names place (map bind_of binds) (scope_in a)) b (λ rest. rest (scope_in b))
        → Says b.above (inside b (term_in names (scope_in b) (expr_of body))) r → Says above (term_in names (scope_of entries) (lets place (to_binds (map bind_of binds)) (expr_of body))) r
    let_says r moved says =
        at_site (lets place (to_binds (map bind_of binds)) (expr_of body)) _ r (let_is names place (scope_in a) binds body)
        (made_says a b (binds_in names place (map bind_of binds) (scope_in a)) (λ s. term_in names s (expr_of body)) r none moved says)

    pub let_err : (fault : TermFault) (r : Result (code.Term Place) TermFault) → IsErrAnd r (λ e. e ≡ fault)
        → Refuses fault (IsTooDeep a (binds_in names place (map bind_of binds) (scope_in a))) → Says above (term_in names (scope_of entries) (lets place (to_binds (map bind_of binds)) (expr_of body))) r
    let_err fault r err refuses =
        over_site (lets place (to_binds (map bind_of binds)) (expr_of body)) _ fault r (let_is names place (scope_in a) binds body) err
        (weaker fault _ _ refuses (λ deep. made_over a (binds_in names place (map bind_of binds) (scope_in a)) (λ s. term_in names s (expr_of body)) none deep))

  -- a condition
  module _ (test : SExpr) (seen : Items At) (branch other : SExpr) where
    looked_test : (Term → Scope → Term) → Term
    looked_test = observed place (first_place (expr_of test)) (term_in names (scope_in a) (expr_of test)) seen (scope_in a)

    branches : Term → Scope → Term
    branches = branched place (λ s. term_in names s (expr_of branch)) (λ s. term_in names s (expr_of other))

    pub if_says : (e : code.Term Place) (r : Result (code.Term Place) TermFault)
        → Looked (Some 1) a (observed place (first_place (expr_of test)) (term_in names (scope_in a) (expr_of test)) seen (scope_in a)) (the_term e) b
        → Says b.above (inside b (kernel.term place (kernel.if_else (the_term e) (term_in names (scope_in b) (expr_of branch)) (term_in names (scope_in b) (expr_of other))))) r
        → Says above (term_in names (scope_of entries) (if_else place (expr_of test) seen (expr_of branch) (expr_of other))) r
    if_says e r looked says =
        at_site (if_else place (expr_of test) seen (expr_of branch) (expr_of other)) _ r refl
        (looked_says (Some 1) a b (observed place (first_place (expr_of test)) (term_in names (scope_in a) (expr_of test)) seen (scope_in a))
        (branched place (λ s. term_in names s (expr_of branch)) (λ s. term_in names s (expr_of other))) none
        (branched_uses place (λ s. term_in names s (expr_of branch)) (λ s. term_in names s (expr_of other))) (the_term e) r looked says)

    pub test_err : (fault : TermFault) (r : Result (code.Term Place) TermFault) → IsErrAnd r (λ y. y ≡ fault)
        → Refuses fault ((go : Term → Scope → Term) → Uses (Some 1) go
        → term_limit < a.above + depth_of (inside a (observed place (first_place (expr_of test)) (term_in names (scope_in a) (expr_of test)) seen (scope_in a) go)))
        → Says above (term_in names (scope_of entries) (if_else place (expr_of test) seen (expr_of branch) (expr_of other))) r
    unfolding looked_test branches
    test_err fault r err refuses =
        over_site (if_else place (expr_of test) seen (expr_of branch) (expr_of other)) (looked_test branches) fault r refl err
        (looked_over (Some 1) a b looked_test branches none (branched_uses place (λ s. term_in names s (expr_of branch)) (λ s. term_in names s (expr_of other))) fault refuses)

  -- a match
  module _ (value : SExpr) (seen : Items At) (choices : Items Alt) (stands : Option ℕ) (below : stands ≡ under_choices (map alt_of choices)) where
    choices_use : Uses stands (choices_in names (map alt_of choices))
    choices_use = pick stands (sym below)
      where
        pick : (o : Option ℕ) → under_choices (map alt_of choices) ≡ o → Uses o (choices_in names (map alt_of choices))
        pick None none' = λ e e' s. choices_alike (entries_in names) (bodies (entries_in names)) (vars_in names) (map alt_of choices) e e' s none'
        pick (Some k) some = λ e s. choices_under (entries_in names) (bodies (entries_in names)) (vars_in names) (map alt_of choices) e s k some

    pub match_says : (e : code.Term Place) (r : Result (code.Term Place) TermFault)
        → Looked stands a (observed place (first_place (expr_of value)) (term_in names (scope_in a) (expr_of value)) seen (scope_in a)) (the_term e) b
        → Says b.above (inside b (choices_in names (map alt_of choices) (the_term e) (scope_in b))) r → Says above (term_in names (scope_of entries) (match_of place (expr_of value) seen (to_alts (map alt_of choices)))) r
    match_says e r looked says =
        at_site (match_of place (expr_of value) seen (to_alts (map alt_of choices))) _ r (match_is names place (scope_in a) value seen choices)
        (looked_says stands a b (observed place (first_place (expr_of value)) (term_in names (scope_in a) (expr_of value)) seen (scope_in a)) (choices_in names (map alt_of choices)) none choices_use
        (the_term e) r looked says)

    pub match_err : (fault : TermFault) (r : Result (code.Term Place) TermFault) → IsErrAnd r (λ y. y ≡ fault)
        → Refuses fault ((go : Term → Scope → Term) → Uses stands go
        → term_limit < a.above + depth_of (inside a (observed place (first_place (expr_of value)) (term_in names (scope_in a) (expr_of value)) seen (scope_in a) go)))
        → Says above (term_in names (scope_of entries) (match_of place (expr_of value) seen (to_alts (map alt_of choices)))) r
    match_err fault r err refuses =
        over_site (match_of place (expr_of value) seen (to_alts (map alt_of choices))) _ fault r (match_is names place (scope_in a) value seen choices) err
        (looked_over stands a b (observed place (first_place (expr_of value)) (term_in names (scope_in a) (expr_of value)) seen (scope_in a)) (choices_in names (map alt_of choices)) none choices_use fault refuses)
