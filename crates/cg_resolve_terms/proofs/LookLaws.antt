-- What is looked into, with the variables that are observed in it.
use Rattle.std.proofs.Common.{◌≡◌, ℕ, ◌+◌, ◌<◌, ◌≤◌, List, [], ◌∷◌, length, Option, Some, None, Result, Ok, Err, refl, sym, ap, ◌∙◌, subst, arith}
use Rattle.std.specs.Result.{IsErrAnd}
use Rattle.cg_base.specs.declared.place.Place.{Place}
use Rattle.cg_core.specs.declared.at.At.{At}
use Rattle.cg_core.specs.declared.term.Term as code
use Rattle.cg_core.specs.Kernels.{the_term}
use Rattle.cg_core.specs.Terms.{term, var, if_else}
use Rattle.cg_resolve_def.specs.Desugar.{depth_of, term_limit}
use Rattle.cg_resolve_def.specs.Terms.{Scope, Term, observed}
use Rattle.cg_resolve_sites.specs.declared.fault.TermFault.{TermFault}
use Rattle.cg_resolve_sites.specs.declared.frames.Site.{Site}
use Rattle.cg_resolve_sites.specs.Answers.{Says}
use Rattle.cg_resolve_sites.specs.Frames.{around_all}
use Rattle.cg_resolve_sites.specs.Sites.{scope_in, inside, level, Fits, Moved, IsTooDeep, Refuses}
use Rattle.cg_resolve_sites.specs.Stands.{HasRoom, Uses}
use Rattle.cg_resolve_sites.proofs.FrameLaws.{depth_pos, inside_deep, no_frames}
use Rattle.cg_resolve_sites.proofs.ScopeSteps.{scope_long}
use Rattle.cg_resolve_sites.proofs.SiteLaws.{weaker, inside_says}
use Rattle.cg_resolve_binders.specs.Parts.{seen_made}
use Rattle.cg_resolve_binders.proofs.BinderSteps.{variable_room}
use Rattle.cg_resolve_terms.specs.Answers.{StandingSays, Looked, LooksInto}

-- no variables, or some
observed_none : (p q : Place) (e : Term) (seen : List At) (scope : Scope) (go : Term → Scope → Term) → length seen ≡ 0 → observed p q e seen scope go ≡ go e scope
observed_none p q e [] scope go none = refl
observed_none p q e (s ∷ ss) scope go none = absurd (omega arith)

observed_some : (p q : Place) (e : Term) (seen : List At) (scope : Scope) (go : Term → Scope → Term) → 0 < length seen
    → observed p q e seen scope go ≡ seen_made p seen q e None scope (λ scope'. go (term q (var (length scope))) scope')
observed_some p q e [] scope go some = absurd (omega arith)
observed_some p q e (s ∷ ss) scope go some = refl

-- without them the term itself stands there
pub look_plain : (stands : Option ℕ) (a : Site) (p q : Place) (e : Term) (seen : List At) (r : Result (code.Term Place) TermFault) → length seen ≡ 0 → Fits a
    → StandingSays stands (level a) e r → LooksInto stands a (observed p q e seen (scope_in a)) r a
look_plain None a p q e seen (Ok v) none fits says = record {
  above = refl;
  same = λ go uses. ap (inside a) (observed_none p q e seen (scope_in a) go none ∙ uses e (the_term v) (scope_in a));
  room = tt;
  fits = fits;
}
look_plain (Some k) a p q e seen (Ok v) none fits says = record {
  above = refl;
  same = λ go uses. ap (inside a) (observed_none p q e seen (scope_in a) go none ∙ ap (λ t. go t (scope_in a)) (sym says.0));
  room = λ one. omega (arith, says.1, ap depth_of says.0);
  fits = fits;
}
look_plain None a p q e seen (Err fault) none fits says = weaker fault _ _ says (λ never. absurd never)
look_plain (Some k) a p q e seen (Err fault) none fits says = weaker fault _ _ says
    (λ over go uses. omega (arith, over, uses e (scope_in a), inside_deep a.frames.items (go e (scope_in a)), ap (λ t. depth_of (inside a t)) (observed_none p q e seen (scope_in a) go none)))

-- with some it is a variable
look_seen : (stands : Option ℕ) (a b : Site) (p q : Place) (e : Term) (seen : List At) (at : ℕ) (v : code.Term Place) → 0 < length seen → at ≡ length a.scope.items
    → the_term v ≡ term q (var at) → Moved a (seen_made p seen q e None (scope_in a)) b (λ rest. rest (scope_in b)) → LooksInto stands a (observed p q e seen (scope_in a)) (Ok v) b
look_seen stands a b p q e seen at v some here is moved = record {
  above = moved.above;
  same = λ go uses.
      ap (inside a) (observed_some p q e seen (scope_in a) go some)
      ∙ moved.same (λ scope. go (term q (var (length (scope_in a)))) scope)
      ∙ ap (λ t. inside b (go t (scope_in b))) (ap (λ n. term q (var n)) (scope_long a.scope.items ∙ sym here) ∙ sym is);
  room = subst (λ t. HasRoom stands (level b) (depth_of t)) (sym is) (variable_room stands (level b));
  fits = moved.fits;
}

look_seen_err : (stands : Option ℕ) (a b : Site) (p q : Place) (e : Term) (seen : List At) (fault : TermFault) (r : Result (code.Term Place) TermFault) → 0 < length seen
    → IsErrAnd r (λ x. x ≡ fault) → Refuses fault (IsTooDeep a (seen_made p seen q e None (scope_in a))) → LooksInto stands a (observed p q e seen (scope_in a)) r b
look_seen_err stands a b p q e seen fault (Ok v) some is refuses = absurd is
look_seen_err stands a b p q e seen fault (Err x) some is refuses =
    subst (λ f. LooksInto stands a (observed p q e seen (scope_in a)) (Err f) b) (sym is)
    (weaker fault _ _ refuses (λ deep go uses. omega (arith, deep (λ scope. go (term q (var (length (scope_in a)))) scope), ap (λ t. depth_of (inside a t)) (observed_some p q e seen (scope_in a) go some))))

-- the same at a place that is the one meant
pub look_seen_at : (stands : Option ℕ) (a b : Site) (p q w : Place) (e : Term) (seen : List At) (at : ℕ) (v : code.Term Place) → w ≡ q → 0 < length seen → at ≡ length a.scope.items
    → the_term v ≡ term w (var at) → Moved a (seen_made p seen w e None (scope_in a)) b (λ rest. rest (scope_in b)) → LooksInto stands a (observed p q e seen (scope_in a)) (Ok v) b
look_seen_at stands a b p q w e seen at v same some here is moved =
    look_seen stands a b p q e seen at v some here (is ∙ ap (λ u. term u (var at)) same) (subst (λ u. Moved a (seen_made p seen u e None (scope_in a)) b (λ rest. rest (scope_in b))) same moved)

pub look_err_at : (stands : Option ℕ) (a b : Site) (p q w : Place) (e : Term) (seen : List At) (fault : TermFault) (r : Result (code.Term Place) TermFault) → w ≡ q → 0 < length seen
    → IsErrAnd r (λ x. x ≡ fault) → Refuses fault (IsTooDeep a (seen_made p seen w e None (scope_in a))) → LooksInto stands a (observed p q e seen (scope_in a)) r b
look_err_at stands a b p q w e seen fault r same some is refuses =
    look_seen_err stands a b p q e seen fault r some is (subst (λ u. Refuses fault (IsTooDeep a (seen_made p seen u e None (scope_in a)))) same refuses)

-- ---- at a site where nothing was done before

module _ (stands : Option ℕ) (a b : Site) (made : (Term → Scope → Term) → Term) (go : Term → Scope → Term) (none : a.frames.items ≡ []) (uses : Uses stands go) where
  looked_is : (s : Term) → Looked stands a made s b → made go ≡ inside b (go s (scope_in b))
  looked_is s looked = sym (ap (λ fs. around_all fs (made go)) none ∙ no_frames (made go)) ∙ looked.same go uses

  pub looked_says : (s : Term) (r : Result (code.Term Place) TermFault) → Looked stands a made s b → Says b.above (inside b (go s (scope_in b))) r → Says a.above (made go) r
  looked_says s r looked says =
      subst (λ t. Says a.above t r) (sym (looked_is s looked)) (subst (λ n. Says n (inside b (go s (scope_in b))) r) looked.above says)

  pub looked_err : (s : Term) (n : ℕ) (fault : TermFault) → Looked stands a made s b → n ≤ depth_of (go s (scope_in b)) → Refuses fault (term_limit < level b + n)
      → Refuses fault (term_limit < a.above + depth_of (made go))
  looked_err s n fault looked part refuses =
      weaker fault _ _ refuses (λ over. omega (arith, over, part, looked.above, inside_deep b.frames.items (go s (scope_in b)), ap depth_of (looked_is s looked)))

  pub looked_over : (fault : TermFault) → Refuses fault ((next : Term → Scope → Term) → Uses stands next → term_limit < a.above + depth_of (inside a (made next)))
      → Refuses fault (term_limit < a.above + depth_of (made go))
  looked_over fault refuses = weaker fault _ _ refuses (λ over. omega (arith, over go uses, ap (λ fs. depth_of (around_all fs (made go))) none, ap depth_of (no_frames (made go))))

-- ---- a condition

-- with its branches
abbrev pub branched : Place → (Scope → Term) → (Scope → Term) → Term → Scope → Term
branched p branch other e scope = term p (if_else e (branch scope) (other scope))

pub branched_uses : (p : Place) (branch other : Scope → Term) → Uses (Some 1) (branched p branch other)
branched_uses p branch other = λ e scope. omega arith

pub branches_say : (b : Site) (p : Place) (s branch other : Term) (y n w t : code.Term Place) → Fits b → HasRoom (Some 1) (level b) (depth_of s)
    → Says (level b + 1) branch (Ok y) → Says (level b + 1) other (Ok n) → the_term w ≡ term p (if_else s (the_term y) (the_term n)) → the_term t ≡ inside b (the_term w)
    → Says b.above (inside b (term p (if_else s branch other))) (Ok t)
branches_say b p s branch other y n w t fits room first second is closed = (closed ∙ ap (inside b) same, inside_says b (term p (if_else s branch other)) fits deep)
  where
    same : the_term w ≡ term p (if_else s branch other)
    same = is ∙ ap (λ u. term p (if_else s u (the_term n))) first.0 ∙ ap (λ u. term p (if_else s branch u)) second.0

    deep : level b + depth_of (term p (if_else s branch other)) ≤ term_limit
    deep = omega (arith, first.1, second.1, depth_pos branch, room (omega (arith, first.1, depth_pos branch)))
