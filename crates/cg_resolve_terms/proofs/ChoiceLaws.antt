-- Alternatives of a match, one after the other.
use Rattle.std.proofs.Common.{◌≡◌, ℕ, ◌+◌, ◌<◌, List, [], ◌∷◌, length, map, drop, get_or, Option, Some, Result, refl, sym, ap, ◌∙◌, subst, arith, length-drop}
use Rattle.std.proofs.lemmas.List.{length-map, drop_all}
use Rattle.std.specs.Result.{IsErrAnd}
use Rattle.cg_base.specs.declared.place.Place.{Place}
use Rattle.cg_core.specs.declared.term.Term as code
use Rattle.cg_core.specs.Terms.{term, var}
use Rattle.cg_surface.specs.declared.expr.Alt.{Alt}
use Rattle.cg_surface.specs.Exprs.{OneAlt, alt_of, expr_of}
use Rattle.cg_surface.specs.Patterns.{pattern_of}
use Rattle.cg_resolve_def.specs.Desugar.{depth_of, term_limit}
use Rattle.cg_resolve_def.specs.Terms.{Term}
use Rattle.cg_resolve_sites.specs.declared.fault.TermFault.{TermFault}
use Rattle.cg_resolve_sites.specs.declared.frames.Site.{Site}
use Rattle.cg_resolve_sites.specs.Answers.{Says}
use Rattle.cg_resolve_sites.specs.Sites.{scope_of, scope_in, inside, level, Fits, Moved, IsTooDeep, Refuses, Binds}
use Rattle.cg_resolve_sites.specs.Stands.{under, under_last, under_choices, HasRoom}
use Rattle.cg_resolve_sites.proofs.ScopeSteps.{scope_long}
use Rattle.cg_resolve_sites.proofs.SiteLaws.{weaker, no_room, err_binds}
use Rattle.cg_resolve_binders.specs.Parts.{case_made}
use Rattle.cg_resolve_binders.proofs.BinderSteps.{variable_room, drop_next}
use Rattle.cg_resolve_nodes.specs.declared.names.Names.{Names}
use Rattle.cg_resolve_terms.specs.Terms.{payload_in, case_in, last_in, choices_in}
use Rattle.cg_resolve_terms.proofs.TermSteps.{err_says}
use Rattle.cg_surface.proofs.Views.{alternative_is as alt_is}
use denote.Ref.{Bor}

-- Up to here the alternatives of a match have become those that are left, at another site and of another subject.
pub record Matching (names : Names) (a : Site) (all : List OneAlt) (first : Term) (b : Site) (left : List OneAlt) (subject : Term) : Type 0 where
  pub above : b.above ≡ a.above
  pub same : inside a (choices_in names all first (scope_in a)) ≡ inside b (choices_in names left subject (scope_in b))
  pub fits : Fits b
  pub room : HasRoom (under_choices left) (level b) (depth_of subject)

module _ (names : Names) (a : Site) (all : List OneAlt) (first : Term) where
  pub matching_none : Fits a → HasRoom (under_choices all) (level a) (depth_of first) → Matching names a all first a all first
  matching_none fits room = record { above = refl; same = refl; fits = fits; room = room }

  -- a case more
  module _ (b c : Site) (choice : OneAlt) (s : Term) where
    matching_step : (d : OneAlt) (left : List OneAlt) (v : Term) → Matching names a all first b (choice ∷ d ∷ left) s → v ≡ term choice.place (var (length b.scope.items))
        → Moved b (case_in names choice s (scope_in b)) c (λ rest. rest (scope_in c)) → Matching names a all first c (d ∷ left) v
    matching_step d left v so_far is moved = record {
      above = moved.above ∙ so_far.above;
      same = so_far.same
          ∙ moved.same (λ scope. choices_in names (d ∷ left) (term choice.place (var (length (scope_in b)))) scope)
          ∙ ap (λ t. inside c (choices_in names (d ∷ left) t (scope_in c))) (ap (λ n. term choice.place (var n)) (scope_long b.scope.items) ∙ sym is);
      fits = moved.fits;
      room = subst (λ t. HasRoom (under_choices (d ∷ left)) (level c) (depth_of t)) (sym is) (variable_room (under_choices (d ∷ left)) (level c));
    }

    matching_stop : (d : OneAlt) (left : List OneAlt) (fault : TermFault) → Matching names a all first b (choice ∷ d ∷ left) s → Refuses fault (IsTooDeep b (case_in names choice s (scope_in b)))
        → Refuses fault (term_limit < a.above + depth_of (inside a (choices_in names all first (scope_in a))))
    matching_stop d left fault so_far refuses =
        weaker fault _ _ refuses (λ deep. omega (arith, deep (λ scope. choices_in names (d ∷ left) (term choice.place (var (length (scope_in b)))) scope), so_far.above, ap depth_of so_far.same))

    module _ (now left : List OneAlt) (is : now ≡ choice ∷ left) (some : 0 < length left) (so_far : Matching names a all first b now s) where
      pub matching_more : (v : Term) → v ≡ term choice.place (var (length b.scope.items)) → Moved b (case_in names choice s (scope_in b)) c (λ rest. rest (scope_in c)) → Matching names a all first c left v
      matching_more v var_is moved = pick left some (subst (λ l. Matching names a all first b l s) is so_far)
        where
          pick : (l : List OneAlt) → 0 < length l → Matching names a all first b (choice ∷ l) s → Matching names a all first c l v
          pick [] some' so_far' = absurd (omega arith)
          pick (d ∷ l) some' so_far' = matching_step d l v so_far' var_is moved

      pub matching_deep : (fault : TermFault) → Refuses fault (IsTooDeep b (case_in names choice s (scope_in b))) → Refuses fault (term_limit < a.above + depth_of (inside a (choices_in names all first (scope_in a))))
      matching_deep fault refuses = pick left some (subst (λ l. Matching names a all first b l s) is so_far)
        where
          pick : (l : List OneAlt) → 0 < length l → Matching names a all first b (choice ∷ l) s → Refuses fault (term_limit < a.above + depth_of (inside a (choices_in names all first (scope_in a))))
          pick [] some' so_far' = absurd (omega arith)
          pick (d ∷ l) some' so_far' = matching_stop d l fault so_far' refuses

      -- any case has room
      pub matching_room : HasRoom (Some 1) (level b) (depth_of s)
      matching_room = pick left some (subst (λ l. Matching names a all first b l s) is so_far)
        where
          pick : (l : List OneAlt) → 0 < length l → Matching names a all first b (choice ∷ l) s → HasRoom (Some 1) (level b) (depth_of s)
          pick [] some' so_far' = absurd (omega arith)
          pick (d ∷ l) some' so_far' = so_far'.room

  -- what is left, said
  pub matching_says : (b : Site) (left : List OneAlt) (s : Term) (r : Result (code.Term Place) TermFault) → Matching names a all first b left s
      → Says b.above (inside b (choices_in names left s (scope_in b))) r → Says a.above (inside a (choices_in names all first (scope_in a))) r
  matching_says b left s r so_far says =
      subst (λ t. Says a.above t r) (sym so_far.same) (subst (λ n. Says n (inside b (choices_in names left s (scope_in b))) r) so_far.above says)

-- ---- a case with its first branch

pub case_ok : (a b : Site) (names : Names) (choice : OneAlt) (subject first : Term) (r : Result Unit TermFault) → first ≡ payload_in names choice.pattern (scope_in a) choice.body
    → Binds a (case_made choice subject first (scope_in a)) r b → Binds a (case_in names choice subject (scope_in a)) r b
case_ok a b names choice subject first r is binds = subst (λ t. Binds a (case_made choice subject t (scope_in a)) r b) is binds

-- the first branch is too deep
pub case_err : (a b : Site) (names : Names) (choice : OneAlt) (subject t : Term) (n : ℕ) (fault : TermFault) (r : Result Unit TermFault) → n ≡ level a + 1
    → t ≡ payload_in names choice.pattern (scope_in a) choice.body → IsErrAnd r (λ x. x ≡ fault) → Refuses fault (term_limit < n + depth_of t)
    → Binds a (case_in names choice subject (scope_in a)) r b
case_err a b names choice subject t n fault r at same is refuses =
    err_binds a b (case_in names choice subject (scope_in a)) fault r is
    (weaker fault _ _ refuses (λ over. no_room a (case_in names choice subject (scope_in a)) (1 + depth_of t) (λ rest. omega (arith, ap depth_of same)) (omega (arith, over, at))))

-- ---- alternatives of the code

choices_next : (items : List Alt) (i : ℕ) (d : Alt) → i < length items → d ≡ get_or items i d → map alt_of (drop i items) ≡ alt_of d ∷ map alt_of (drop (i + 1) items)
choices_next items i d within is = ap (map alt_of) (drop_next items i d within is)

choices_left : (items : List Alt) (i left : ℕ) → left + i ≡ length items → 1 < left → 0 < length (map alt_of (drop (i + 1) items))
choices_left items i left count more = omega (arith, length-map (drop (i + 1) items) alt_of, length-drop (i + 1) items)

choices_end : (items : List Alt) (i left : ℕ) → left + i ≡ length items → left ≡ 1 → map alt_of (drop (i + 1) items) ≡ []
choices_end items i left count one = ap (map alt_of) (drop_all (i + 1) items (omega arith))

module _ (names : Names) (a : Site) (all : List OneAlt) (first : Term) (b : Site) (s : Term) (items : List Alt) (i left : ℕ) (d : Alt) (within : i < length items) (is : d ≡ get_or items i d) (count : left + i ≡ length items)
    (so_far : Matching names a all first b (map alt_of (drop i items)) s) where
  -- one that isn't the last
  pub turn_room : 1 < left → HasRoom (Some 1) (level b) (depth_of s)
  turn_room more = matching_room names a all first b b (alt_of d) s _ _ (choices_next items i d within is) (choices_left items i left count more) so_far

  pub turn_more : (c : Site) (v : Term) (at : ℕ) → 1 < left → v ≡ term d.place (var at) → at ≡ length b.scope.items → Moved b (case_in names (alt_of d) s (scope_in b)) c (λ rest. rest (scope_in c))
      → Matching names a all first c (map alt_of (drop (i + 1) items)) v
  turn_more c v at more var_is here moved =
      matching_more names a all first b c (alt_of d) s _ _ (choices_next items i d within is) (choices_left items i left count more) so_far v
      (var_is ∙ ap (λ n. term d.place (var n)) here ∙ ap (λ (o : OneAlt). term o.place (var (length b.scope.items))) (sym (alt_is d))) moved

  pub turn_err : (fault : TermFault) (r : Result (code.Term Place) TermFault) → 1 < left → IsErrAnd r (λ x. x ≡ fault) → Refuses fault (IsTooDeep b (case_in names (alt_of d) s (scope_in b)))
      → Says a.above (inside a (choices_in names all first (scope_in a))) r
  turn_err fault r more err refuses =
      err_says a.above (a.above + depth_of (inside a (choices_in names all first (scope_in a)))) (inside a (choices_in names all first (scope_in a))) fault r err
      (matching_deep names a all first b b (alt_of d) s _ _ (choices_next items i d within is) (choices_left items i left count more) so_far fault refuses) (omega arith)

  -- the last
  last_left : left ≡ 1 → Matching names a all first b (alt_of d ∷ []) s
  last_left one = subst (λ l. Matching names a all first b l s) (choices_next items i d within is ∙ ap (λ l. alt_of d ∷ l) (choices_end items i left count one)) so_far

  pub end_room : left ≡ 1 → HasRoom (under_last (alt_of d).con (under (alt_of d).pattern)) (level b) (depth_of s)
  end_room one = (last_left one).room

  pub end_says : (r : Result (code.Term Place) TermFault) → left ≡ 1 → Says b.above (inside b (last_in names (alt_of d) s (scope_in b))) r → Says a.above (inside a (choices_in names all first (scope_in a))) r
  end_says r one says = matching_says names a all first b (alt_of d ∷ []) s r (last_left one) says

pub case_ok_of : (a b : Site) (names : Names) (d : Alt) (subject t : Term) (entries : List (Option (Bor (List ℕ)))) (r : Result Unit TermFault) → entries ≡ a.scope.items
    → t ≡ payload_in names (pattern_of d.pat) (scope_of entries) (expr_of d.body) → Binds a (case_made (alt_of d) subject t (scope_in a)) r b → Binds a (case_in names (alt_of d) subject (scope_in a)) r b
case_ok_of a b names d subject t entries r scope is binds =
    case_ok a b names (alt_of d) subject t r
    (is ∙ ap (λ l. payload_in names (pattern_of d.pat) (scope_of l) (expr_of d.body)) scope ∙ ap (λ (o : OneAlt). payload_in names o.pattern (scope_in a) o.body) (sym (alt_is d))) binds

pub case_err_of : (a b : Site) (names : Names) (d : Alt) (subject : Term) (entries : List (Option (Bor (List ℕ)))) (n : ℕ) (fault : TermFault) (r : Result Unit TermFault) → entries ≡ a.scope.items
    → n ≡ level a + 1 → IsErrAnd r (λ x. x ≡ fault) → Refuses fault (term_limit < n + depth_of (payload_in names (pattern_of d.pat) (scope_of entries) (expr_of d.body)))
    → Binds a (case_in names (alt_of d) subject (scope_in a)) r b
case_err_of a b names d subject entries n fault r scope at err refuses =
    case_err a b names (alt_of d) subject (payload_in names (pattern_of d.pat) (scope_of entries) (expr_of d.body)) n fault r at
    (ap (λ l. payload_in names (pattern_of d.pat) (scope_of l) (expr_of d.body)) scope ∙ ap (λ (o : OneAlt). payload_in names o.pattern (scope_in a) o.body) (sym (alt_is d))) err refuses
