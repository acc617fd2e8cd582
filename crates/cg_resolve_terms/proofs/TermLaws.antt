-- What is made of the parts of a term, and how deep it is.
use Rattle.std.proofs.Common.{◌≡◌, ℕ, ◌+◌, ◌<◌, ◌≤◌, List, [], ◌∷◌, ◌++◌, length, Option, Some, None, Result, Ok, Err, refl, sym, ap, ◌∙◌, subst, arith}
use Rattle.std.specs.Prelude.{max, MatchOption, ⊤}
use Rattle.std.specs.Result.{IsErrAnd}
use Rattle.std.proofs.Math.Path.{fun_ext}
use Rattle.cg_base.specs.declared.place.Place.{Place}
use Rattle.cg_core.specs.declared.at.At.{At}
use Rattle.cg_core.specs.declared.term.Term as code
use Rattle.cg_core.specs.Kernels.{the_term}
use Rattle.cg_core.specs.Terms.{to_named, OneField}
use Rattle.cg_surface.specs.declared.expr.Bind.{Bind}
use Rattle.cg_surface.specs.Exprs.{Expr, OneBind, bind_of, expr_of}
use Rattle.cg_surface.specs.Patterns.{Pattern, pattern_of}
use Rattle.cg_resolve_def.specs.Desugar.{depth_of, deepest_named, term_limit}
use Rattle.cg_resolve_def.specs.Terms.{Scope, Term, Rest, its_name, inner_place, first_place, bind, bound_to, let_bound, seen_bound, payload_bound}
use Rattle.cg_resolve_sites.specs.declared.fault.TermFault.{TermFault}
use Rattle.cg_resolve_sites.specs.declared.frames.Site.{Site}
use Rattle.cg_resolve_sites.specs.Answers.{Says}
use Rattle.cg_resolve_sites.specs.Frames.{around_all}
use Rattle.cg_resolve_sites.specs.Sites.{entry_of, scope_of, scope_in, inside, level, Fits, Moved, IsTooDeep, Refuses, Binds}
use Rattle.cg_resolve_sites.specs.Stands.{under, HasRoom}
use Rattle.cg_resolve_sites.proofs.FrameLaws.{inside_deep, no_frames}
use Rattle.cg_resolve_sites.proofs.ScopeSteps.{scope_push, scope_long}
use Rattle.cg_resolve_sites.proofs.SiteLaws.{weaker, no_room, err_binds, binds_then, first_deep, inside_says}
use Rattle.cg_resolve_sites.proofs.StandLaws.{bound_under, bound_alike}
use Rattle.cg_resolve_binders.specs.Parts.{seen_made, later_bound}
use Rattle.cg_resolve_nodes.specs.declared.names.Names.{Names}
use Rattle.cg_resolve_terms.specs.Terms.{term_in, bind_in, observed_in, payload_in}
use Rattle.cg_resolve_terms.specs.Answers.{StandingSays}
use Rattle.cg_resolve_terms.proofs.TermSteps.{err_says}
use Rattle.cg_surface.proofs.Views.{bind_is}
use denote.Ref.{Bor}

-- ---- fields of a record that is made

pub named_none : deepest_named (to_named []) ≡ 0
unfolding to_named
named_none = refl

pub named_more : (fs : List (OneField Place)) (f : OneField Place) → deepest_named (to_named (fs ++ f ∷ [])) ≡ max (deepest_named (to_named fs)) (depth_of f.term)
unfolding to_named
named_more [] f = omega arith
named_more (g ∷ fs) f = omega (arith, named_more fs f)

pub named_deep : (fs gs : List (OneField Place)) (f : OneField Place) → depth_of f.term ≤ deepest_named (to_named (fs ++ f ∷ gs))
unfolding to_named
named_deep [] gs f = omega arith
named_deep (g ∷ fs) gs f = omega (arith, named_deep fs gs f)

-- ---- a term where a site goes on

pub inside_over : (a : Site) (t : Term) → term_limit < level a + depth_of t → term_limit < a.above + depth_of (inside a t)
inside_over a t over = omega (arith, inside_deep a.frames.items t, over)

-- what is made at a site where nothing was done before
pub made_inside : (a b : Site) (made : Rest → Term) (rest : Rest) → a.frames.items ≡ [] → Moved a made b (λ r. r (scope_in b)) → made rest ≡ inside b (rest (scope_in b))
made_inside a b made rest none moved = sym (ap (λ fs. around_all fs (made rest)) none ∙ no_frames (made rest)) ∙ moved.same rest

pub made_says : (a b : Site) (made : Rest → Term) (rest : Rest) (r : Result (code.Term Place) TermFault) → a.frames.items ≡ [] → Moved a made b (λ s. s (scope_in b))
    → Says b.above (inside b (rest (scope_in b))) r → Says a.above (made rest) r
made_says a b made rest r none moved says =
    subst (λ t. Says a.above t r) (sym (made_inside a b made rest none moved)) (subst (λ n. Says n (inside b (rest (scope_in b))) r) moved.above says)

pub made_over : (a : Site) (made : Rest → Term) (rest : Rest) → a.frames.items ≡ [] → IsTooDeep a made → term_limit < a.above + depth_of (made rest)
made_over a made rest none deep = omega (arith, deep rest, ap (λ fs. depth_of (around_all fs (made rest))) none, ap depth_of (no_frames (made rest)))

-- ---- bindings

-- one without observed variables
pub let_plain : (p q : Place) (x : Pattern) (e : Term) (seen : List At) (scope : Scope) → length seen ≡ 0 → let_bound p q x e seen scope ≡ bind x e scope
let_plain p q x e [] scope none = refl
let_plain p q x e (at ∷ ats) scope none = absurd (omega arith)

seen_later : (o : Option (List ℕ)) (x : Pattern) (q : Place) (scope : Scope) (rest : Rest) → seen_bound o x q scope rest ≡ later_bound o x q (length scope) (o ∷ scope) rest
seen_later None x q scope rest = refl
seen_later (Some n) x q scope rest = refl

-- one with some
pub let_seen : (p q : Place) (x : Pattern) (e : Term) (seen : List At) (scope : Scope) (rest : Rest) → 0 < length seen
    → let_bound p q x e seen scope rest ≡ seen_made p seen (inner_place x) e (its_name x) scope (λ scope'. later_bound (its_name x) x q (length scope) scope' rest)
let_seen p q x e [] scope rest some = absurd (omega arith)
let_seen p q x e (at ∷ ats) scope rest some = ap (λ t. seen_made p (at ∷ ats) (inner_place x) e (its_name x) scope (λ scope'. t)) (seen_later (its_name x) x q scope rest)

-- the body of an alternative, or of a definition
payload_later_of : (o : Option (List ℕ)) (x : Pattern) (scope : Scope) (rest : Rest) → payload_bound o x scope rest ≡ later_bound o x (inner_place x) (length scope) (o ∷ scope) rest
payload_later_of None x scope rest = refl
payload_later_of (Some n) x scope rest = refl

pub payload_later : (x : Pattern) (scope : Scope) (rest : Rest) → payload_bound (its_name x) x scope rest ≡ later_bound (its_name x) x (inner_place x) (length scope) (its_name x ∷ scope) rest
payload_later x scope rest = payload_later_of (its_name x) x scope rest

-- ---- a term that is bound where it stands

-- it has room there
pub standing_room : (o : Option ℕ) (n : ℕ) (t : Term) (v : code.Term Place) → StandingSays o n t (Ok v) → HasRoom o n (depth_of (the_term v))
standing_room None n t v says = tt
standing_room (Some k) n t v says = λ room. omega (arith, says.1, ap depth_of says.0)

-- and is the term that is meant, unless it is left out
pub standing_binds : (a b : Site) (x : Pattern) (t : Term) (v : code.Term Place) (r : Result Unit TermFault) → StandingSays (under x) (level a) t (Ok v)
    → Binds a (bound_to (inner_place x) x (the_term v) (scope_in a)) r b → Binds a (bind x t (scope_in a)) r b
standing_binds a b x t v r says binds = pick (under x) refl says
  where
    pick : (o : Option ℕ) → under x ≡ o → StandingSays o (level a) t (Ok v) → Binds a (bind x t (scope_in a)) r b
    pick None out says' = subst (λ made. Binds a made r b) (fun_ext (λ rest. bound_alike (inner_place x) x (the_term v) t (scope_in a) rest out)) binds
    pick (Some k) stands says' = subst (λ u. Binds a (bind x u (scope_in a)) r b) says'.0 binds

-- where it is too deep, so is the whole
pub standing_deep : (a : Site) (x : Pattern) (t : Term) (fault : TermFault) → StandingSays (under x) (level a) t (Err fault) → Refuses fault (IsTooDeep a (bind x t (scope_in a)))
standing_deep a x t fault says = pick (under x) refl says
  where
    pick : (o : Option ℕ) → under x ≡ o → StandingSays o (level a) t (Err fault) → Refuses fault (IsTooDeep a (bind x t (scope_in a)))
    pick None out says' = weaker fault _ _ says' (λ never. absurd never)
    pick (Some k) stands says' = weaker fault _ _ says' (λ over. no_room a (bind x t (scope_in a)) (k + depth_of t) (λ rest. bound_under (inner_place x) x t (scope_in a) rest k stands) (omega (arith, over)))

-- ---- answers at a site

-- what goes on there
pub finish_ok : (a : Site) (n : ℕ) (t u : Term) (v w : code.Term Place) → Fits a → n ≡ level a → u ≡ t → Says n u (Ok v) → the_term w ≡ inside a (the_term v) → Says a.above (inside a t) (Ok w)
finish_ok a n t u v w fits at same says closed = (closed ∙ ap (inside a) (says.0 ∙ same), inside_says a t fits (omega (arith, says.1, at, ap depth_of same)))

pub finish_err : (a : Site) (n : ℕ) (t u : Term) (fault : TermFault) (r : Result (code.Term Place) TermFault) → n ≡ level a → u ≡ t → IsErrAnd r (λ e. e ≡ fault)
    → Refuses fault (term_limit < n + depth_of u) → Says a.above (inside a t) r
finish_err a n t u fault r at same is refuses =
    err_says a.above (level a + depth_of t) (inside a t) fault r is (weaker fault _ _ refuses (λ over. omega (arith, over, at, ap depth_of same))) (omega (arith, inside_deep a.frames.items t))

-- a term that is observed
pub observe_err : (a b : Site) (p : Place) (seen : List At) (q : Place) (t u : Term) (entry : Option (List ℕ)) (n : ℕ) (fault : TermFault) (r : Result Unit TermFault)
    → n ≡ level a + 1 → u ≡ t → IsErrAnd r (λ e. e ≡ fault) → Refuses fault (term_limit < n + depth_of u) → Binds a (seen_made p seen q t entry (scope_in a)) r b
observe_err a b p seen q t u entry n fault r at same is refuses =
    err_binds a b (seen_made p seen q t entry (scope_in a)) fault r is
    (weaker fault _ _ refuses (λ over. no_room a (seen_made p seen q t entry (scope_in a)) (1 + depth_of t) (λ rest. omega arith) (omega (arith, over, at, ap depth_of same))))

-- a term that is bound
pub plain_ok : (a b : Site) (x : Pattern) (t : Term) (o : Option ℕ) (q : Place) (v : code.Term Place) (r : Result Unit TermFault) → o ≡ under x → q ≡ inner_place x
    → StandingSays o (level a) t (Ok v) → Binds a (bound_to q x (the_term v) (scope_in a)) r b → Binds a (bind x t (scope_in a)) r b
plain_ok a b x t o q v r is place says binds =
    standing_binds a b x t v r (subst (λ u. StandingSays u (level a) t (Ok v)) is says) (subst (λ p. Binds a (bound_to p x (the_term v) (scope_in a)) r b) place binds)

pub plain_err : (a b : Site) (x : Pattern) (t : Term) (o : Option ℕ) (fault : TermFault) (r : Result Unit TermFault) → o ≡ under x → IsErrAnd r (λ e. e ≡ fault)
    → StandingSays o (level a) t (Err fault) → Binds a (bind x t (scope_in a)) r b
plain_err a b x t o fault r is err says = err_binds a b (bind x t (scope_in a)) fault r err (standing_deep a x t fault (subst (λ u. StandingSays u (level a) t (Err fault)) is says))

pub plain_room : (x : Pattern) (t : Term) (n : ℕ) (o : Option ℕ) (v : code.Term Place) → o ≡ under x → StandingSays o n t (Ok v) → HasRoom (under x) n (depth_of (the_term v))
plain_room x t n o v is says = standing_room (under x) n t v (subst (λ u. StandingSays u n t (Ok v)) is says)

pub small_more : (o : Option ℕ) → MatchOption o ⊤ (λ n. n ≤ 2) → MatchOption o ⊤ (λ n. n ≤ 3)
small_more None small = tt
small_more (Some k) small = omega (arith, small)

-- ---- a binding of a `let`

module _ (names : Names) (a b : Site) (p : Place) (one : Bind) where
  -- its value, observed
  seen_first : Rest → Term
  seen_first = seen_made p one.seen (inner_place (pattern_of one.pat)) (term_in names (scope_in a) (expr_of one.value)) (its_name (pattern_of one.pat)) (scope_in a)

  pub observed_ok : (c : Site) (q f : Place) (entry : Option (List ℕ)) (at : ℕ) (r : Result Unit TermFault) → q ≡ inner_place (pattern_of one.pat) → entry ≡ its_name (pattern_of one.pat)
      → at ≡ length a.scope.items → f ≡ first_place (expr_of one.value)
      → Moved a (seen_made p one.seen q (term_in names (scope_in a) (expr_of one.value)) entry (scope_in a)) b (λ rest. rest (scope_in b))
      → Binds b (later_bound (its_name (pattern_of one.pat)) (pattern_of one.pat) f at (scope_in b)) r c → Binds a (observed_in names p (bind_of one) (scope_in a)) r c
  unfolding seen_first
  observed_ok c q f entry at r place named here first moved later =
      subst (λ (o : OneBind). Binds a (observed_in names p o (scope_in a)) r c) (sym (bind_is one))
      (binds_then a b c seen_first (λ scope rest. later_bound (its_name (pattern_of one.pat)) (pattern_of one.pat) (first_place (expr_of one.value)) (length (scope_in a)) scope rest) r
      (subst (λ w. Moved a (seen_made p one.seen w (term_in names (scope_in a) (expr_of one.value)) (its_name (pattern_of one.pat)) (scope_in a)) b (λ rest. rest (scope_in b))) place
      (subst (λ w. Moved a (seen_made p one.seen q (term_in names (scope_in a) (expr_of one.value)) w (scope_in a)) b (λ rest. rest (scope_in b))) named moved))
      (subst (λ n. Binds b (later_bound (its_name (pattern_of one.pat)) (pattern_of one.pat) (first_place (expr_of one.value)) n (scope_in b)) r c) (here ∙ sym (scope_long a.scope.items))
      (subst (λ w. Binds b (later_bound (its_name (pattern_of one.pat)) (pattern_of one.pat) w at (scope_in b)) r c) first later)))

  pub observed_err : (q : Place) (entry : Option (List ℕ)) (fault : TermFault) (r : Result Unit TermFault) → q ≡ inner_place (pattern_of one.pat) → entry ≡ its_name (pattern_of one.pat)
      → IsErrAnd r (λ e. e ≡ fault) → Refuses fault (IsTooDeep a (seen_made p one.seen q (term_in names (scope_in a) (expr_of one.value)) entry (scope_in a)))
      → Binds a (observed_in names p (bind_of one) (scope_in a)) r b
  unfolding seen_first
  observed_err q entry fault r place named is refuses =
      subst (λ (o : OneBind). Binds a (observed_in names p o (scope_in a)) r b) (sym (bind_is one))
      (err_binds a b _ fault r is (weaker fault _ _
      (subst (λ w. Refuses fault (IsTooDeep a (seen_made p one.seen w (term_in names (scope_in a) (expr_of one.value)) (its_name (pattern_of one.pat)) (scope_in a)))) place
      (subst (λ w. Refuses fault (IsTooDeep a (seen_made p one.seen q (term_in names (scope_in a) (expr_of one.value)) w (scope_in a)))) named refuses))
      (first_deep a seen_first (λ scope rest. later_bound (its_name (pattern_of one.pat)) (pattern_of one.pat) (first_place (expr_of one.value)) (length (scope_in a)) scope rest))))

  pub let_observed : (r : Result Unit TermFault) → 0 < length one.seen → Binds a (observed_in names p (bind_of one) (scope_in a)) r b → Binds a (bind_in names p (bind_of one) (scope_in a)) r b
  let_observed r some binds =
      subst (λ made. Binds a made r b)
      (fun_ext (λ rest. sym (let_seen p (first_place (bind_of one).value) (bind_of one).pattern (term_in names (scope_in a) (bind_of one).value) (bind_of one).seen (scope_in a) rest (omega (arith, ap (λ (o : OneBind). length o.seen) (bind_is one))))))
      binds

-- ---- the body of an alternative, or of a definition

module _ (names : Names) (a b : Site) (x : Pattern) (e : Expr) (entries : List (Option (Bor (List ℕ)))) (at above : ℕ) (q : Place) (none : a.frames.items ≡ []) (same : a.above ≡ above)
    (scope : scope_in a ≡ its_name x ∷ scope_of entries) (here : at ≡ length entries) (place : q ≡ inner_place x) where
  payload_is : payload_in names x (scope_of entries) e ≡ later_bound (its_name x) x q at (scope_in a) (λ s. term_in names s e)
  payload_is =
      payload_later x (scope_of entries) (λ s. term_in names s e)
      ∙ ap (λ n. later_bound (its_name x) x (inner_place x) n (its_name x ∷ scope_of entries) (λ s. term_in names s e)) (scope_long entries ∙ sym here)
      ∙ ap (λ s. later_bound (its_name x) x (inner_place x) at s (λ s'. term_in names s' e)) (sym scope)
      ∙ ap (λ w. later_bound (its_name x) x w at (scope_in a) (λ s. term_in names s e)) (sym place)

  pub payload_says : (r : Result (code.Term Place) TermFault) → Moved a (later_bound (its_name x) x q at (scope_in a)) b (λ rest. rest (scope_in b))
      → Says b.above (inside b (term_in names (scope_in b) e)) r → Says above (payload_in names x (scope_of entries) e) r
  payload_says r moved says =
      subst (λ t. Says above t r) (sym payload_is)
      (subst (λ n. Says n (later_bound (its_name x) x q at (scope_in a) (λ s. term_in names s e)) r) same
      (made_says a b (later_bound (its_name x) x q at (scope_in a)) (λ s. term_in names s e) r none moved says))

  pub payload_err : (fault : TermFault) (r : Result (code.Term Place) TermFault) → IsErrAnd r (λ y. y ≡ fault) → Refuses fault (IsTooDeep a (later_bound (its_name x) x q at (scope_in a)))
      → Says above (payload_in names x (scope_of entries) e) r
  payload_err fault r is refuses =
      err_says above (above + depth_of (payload_in names x (scope_of entries) e)) (payload_in names x (scope_of entries) e) fault r is
      (weaker fault _ _ refuses (λ deep. omega (arith, made_over a (later_bound (its_name x) x q at (scope_in a)) (λ s. term_in names s e) none deep, same, ap depth_of payload_is))) (omega arith)

-- the scope there
pub payload_scope : (before after entries : List (Option (Bor (List ℕ)))) (e : Option (Bor (List ℕ))) (x : Pattern) → after ≡ before ++ e ∷ [] → before ≡ entries → entry_of e ≡ its_name x
    → scope_of after ≡ its_name x ∷ scope_of entries
payload_scope before after entries e x pushed same named =
    ap scope_of pushed ∙ scope_push before e ∙ ap (λ l. entry_of e ∷ scope_of l) same ∙ ap (λ n. n ∷ scope_of entries) named
