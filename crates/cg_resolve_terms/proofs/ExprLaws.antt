-- Lists of expressions from their first item on.
use Rattle.std.proofs.Common.{◌≡◌, ℕ, ◌+◌, ◌≤◌, List, [], ◌∷◌, ◌++◌, map, length, Option, Some, None, refl, ap, arith}
use Rattle.cg_base.specs.declared.place.Place.{Place}
use Rattle.cg_core.specs.Terms.{term, put, esac, to_named, end}
use Rattle.cg_surface.specs.Patterns.{Pattern}
use Rattle.cg_surface.specs.Exprs.{Expr, Exprs, FieldExprs, Binds, Alts, OneField, OneBind, OneAlt, to_exprs, to_fields, to_binds, to_alts, exprs_behind, fields_behind, binds_behind, alts_behind, no_exprs, and_expr, no_fields, and_field, no_binds, and_bind, no_alts, and_alt, fields_push}
use Rattle.cg_surface.specs.Programs.{Entry}
use Rattle.cg_resolve_def.specs.Desugar.{depth_of}
use Rattle.cg_resolve_def.specs.Expand.{Bodies}
use Rattle.cg_resolve_def.specs.Terms.{Scope, Term, Rest, bindings, alternatives, cases, components_of, fields_of, list_length, puts, term_of, inner_place}
use Rattle.cg_resolve_sites.specs.Stands.{under, under_last, under_choices}
use Rattle.cg_resolve_sites.proofs.StandLaws.{bound_under, bound_alike}
use Rattle.cg_resolve_terms.specs.Parts.{binds_from, cases_from, choices_from, one_last, components_from, field_from}

fields_join : (before : FieldExprs) (xs ys : List OneField) → fields_behind before (xs ++ ys) ≡ fields_behind (fields_behind before xs) ys
fields_join before [] ys = refl
fields_join before (x ∷ xs) ys = fields_join (and_field before x.at x.value) xs ys

module _ (entries : List Entry) (known : Bodies) (vars : List (List ℕ)) where
  binds_more : (p : Place) (before : Binds) (bs : List OneBind) (scope : Scope) (rest : Rest)
      → bindings entries known vars p (binds_behind before bs) scope rest ≡ bindings entries known vars p before scope (λ scope'. binds_from entries known vars p bs scope' rest)
  binds_more p before [] scope rest = refl
  binds_more p before (b ∷ bs) scope rest = binds_more p (and_bind before b.pattern b.value b.seen) bs scope rest

  pub bindings_are : (p : Place) (bs : List OneBind) (scope : Scope) (rest : Rest) → bindings entries known vars p (to_binds bs) scope rest ≡ binds_from entries known vars p bs scope rest
  unfolding to_binds
  bindings_are p bs scope rest = binds_more p no_binds bs scope rest

  alts_more : (before : Alts) (a : OneAlt) (choices : List OneAlt) (subject : Term) (scope : Scope)
      → alternatives entries known vars (alts_behind (and_alt before a.place a.con a.pattern a.body) choices) subject scope
      ≡ cases entries known vars before subject scope (λ subject' scope'. cases_from entries known vars a choices subject' scope')
  alts_more before a [] subject scope = refl
  alts_more before a (c ∷ choices) subject scope = alts_more (and_alt before a.place a.con a.pattern a.body) c choices subject scope

  pub alternatives_are : (choices : List OneAlt) (subject : Term) (scope : Scope) → alternatives entries known vars (to_alts choices) subject scope ≡ choices_from entries known vars choices subject scope
  unfolding to_alts
  alternatives_are [] subject scope = refl
  alternatives_are (a ∷ choices) subject scope = alts_more no_alts a choices subject scope

  components_more : (scope : Scope) (before : Exprs) (es : List Expr)
      → components_of entries known vars scope (exprs_behind before es) end ≡ components_of entries known vars scope before (to_named (components_from entries known vars scope (list_length before) es))
  unfolding to_named
  components_more scope before [] = refl
  components_more scope before (e ∷ es) = components_more scope (and_expr before e) es

  pub components_are : (scope : Scope) (es : List Expr) → components_of entries known vars scope (to_exprs es) end ≡ to_named (components_from entries known vars scope 0 es)
  unfolding to_exprs
  components_are scope es = components_more scope no_exprs es

  values_more : (scope : Scope) (before : FieldExprs) (fs : List OneField)
      → fields_of entries known vars scope (fields_behind before fs) end ≡ fields_of entries known vars scope before (to_named (map (field_from entries known vars scope) fs))
  unfolding to_named
  values_more scope before [] = refl
  values_more scope before (f ∷ fs) = values_more scope (and_field before f.at f.value) fs

  pub fields_are : (scope : Scope) (fs : List OneField) → fields_of entries known vars scope (to_fields fs) end ≡ to_named (map (field_from entries known vars scope) fs)
  unfolding to_fields
  fields_are scope fs = values_more scope no_fields fs

  -- ---- puts

  pub puts_none : (p : Place) (scope : Scope) (e : Term) → puts entries known vars p scope e (to_fields []) ≡ e
  unfolding to_fields
  puts_none p scope e = refl

  pub puts_push : (p : Place) (scope : Scope) (e : Term) (fs : List OneField) (f : OneField)
      → puts entries known vars p scope e (to_fields (fs ++ f ∷ [])) ≡ term p (put (puts entries known vars p scope e (to_fields fs)) f.at (term_of entries known vars scope f.value))
  puts_push p scope e fs f = ap (puts entries known vars p scope e) (fields_push fs f)

  puts_over : (p : Place) (scope : Scope) (e : Term) (before : FieldExprs) (fs : List OneField)
      → depth_of (puts entries known vars p scope e before) + length fs ≤ depth_of (puts entries known vars p scope e (fields_behind before fs))
  puts_over p scope e before [] = omega arith
  puts_over p scope e before (f ∷ fs) = omega (arith, puts_over p scope e (and_field before f.at f.value) fs)

  -- each put further on stands above those before it
  pub puts_deep : (p : Place) (scope : Scope) (e : Term) (xs ys : List OneField)
      → depth_of (puts entries known vars p scope e (to_fields xs)) + length ys ≤ depth_of (puts entries known vars p scope e (to_fields (xs ++ ys)))
  unfolding to_fields
  puts_deep p scope e xs ys = omega (arith, puts_over p scope e (fields_behind no_fields xs) ys, ap (λ l. depth_of (puts entries known vars p scope e l)) (fields_join no_fields xs ys))

  -- ---- how far down a subject stands

  last_under : (head : Option (List ℕ)) (p : Place) (x : Pattern) (b : Expr) (subject : Term) (scope : Scope) (k : ℕ) → under_last head (under x) ≡ Some k
      → k + depth_of subject ≤ depth_of (one_last entries known vars (record { place = p; con = head; pattern = x; body = b }) subject scope)
  last_under None p x b subject scope k is = bound_under (inner_place x) x subject scope (λ scope'. term_of entries known vars scope' b) k is
  last_under (Some n) p x b subject scope k is = more (under x) refl is
    where
      more : (o : Option ℕ) → under x ≡ o → under_last (Some n) o ≡ Some k → k + depth_of subject ≤ depth_of (one_last entries known vars (record { place = p; con = Some n; pattern = x; body = b }) subject scope)
      more None at h = absurd (cc)
      more (Some j) at h =
          let e : j + 1 ≡ k = cc in
          omega (arith, e, bound_under p x (term p (esac (record { place = p; name = n }) subject)) scope (λ scope'. term_of entries known vars scope' b) j at)

  pub choices_under : (choices : List OneAlt) (subject : Term) (scope : Scope) (k : ℕ) → under_choices choices ≡ Some k → k + depth_of subject ≤ depth_of (choices_from entries known vars choices subject scope)
  choices_under [] subject scope k is = let none : 0 ≡ k = cc in omega arith
  choices_under (a ∷ []) subject scope k is = last_under a.con a.place a.pattern a.body subject scope k is
  choices_under (a ∷ b ∷ choices) subject scope k is = let one : 1 ≡ k = cc in omega arith

  last_alike : (head : Option (List ℕ)) (p : Place) (x : Pattern) (b : Expr) (subject other : Term) (scope : Scope) → under_last head (under x) ≡ None
      → one_last entries known vars (record { place = p; con = head; pattern = x; body = b }) subject scope ≡ one_last entries known vars (record { place = p; con = head; pattern = x; body = b }) other scope
  last_alike None p x b subject other scope is = bound_alike (inner_place x) x subject other scope (λ scope'. term_of entries known vars scope' b) is
  last_alike (Some n) p x b subject other scope is = more (under x) refl is
    where
      more : (o : Option ℕ) → under x ≡ o → under_last (Some n) o ≡ None → one_last entries known vars (record { place = p; con = Some n; pattern = x; body = b }) subject scope ≡ one_last entries known vars (record { place = p; con = Some n; pattern = x; body = b }) other scope
      more None at h = bound_alike p x (term p (esac (record { place = p; name = n }) subject)) (term p (esac (record { place = p; name = n }) other)) scope (λ scope'. term_of entries known vars scope' b) at
      more (Some j) at h = absurd (cc)

  pub choices_alike : (choices : List OneAlt) (subject other : Term) (scope : Scope) → under_choices choices ≡ None → choices_from entries known vars choices subject scope ≡ choices_from entries known vars choices other scope
  choices_alike [] subject other scope is = absurd (cc)
  choices_alike (a ∷ []) subject other scope is = last_alike a.con a.place a.pattern a.body subject other scope is
  choices_alike (a ∷ b ∷ choices) subject other scope is = absurd (cc)
