-- Terms that are bound to patterns: what is bound goes on with one scope, in which all names of the pattern stand; and where the rest is proper
-- in that scope, the whole is proper.
use Rattle.std.proofs.Common.{◌≡◌, ℕ, suc, ◌+◌, ◌<◌, ◌≤◌, ◌||◌, Bool, true, false, List, [], ◌∷◌, ◌++◌, length, Option, Some, None, ◌⊎◌, inl, inr, refl, sym, ap, ◌∙◌, subst as carry, arith}
use Rattle.std.proofs.lemmas.List.{map-append}
use Rattle.cg_base.specs.declared.place.Place.{Place}
use Rattle.cg_base.specs.Types as kernel
use Rattle.cg_core.specs.declared.at.At.{At}
use Rattle.cg_core.specs.Terms.{term, var, take_field, annot}
use Rattle.cg_surface.specs.Patterns.{Pattern, Patterns, FieldPatterns}
use Rattle.cg_surface.specs.Patterns as patterns
use Rattle.cg_resolve_def.specs.Declared.{is_among}
use Rattle.cg_resolve_def.specs.Expand.{component}
use Rattle.cg_resolve_def.specs.Faults.{all_variables, bound, field_variables, names_of, variables}
use Rattle.cg_resolve_def.specs.Takes.{patterns_length}
use Rattle.cg_resolve_def.specs.Terms.{Later, Rest, Scope, Term, behind, bind, bound_to, components_taken, fields_taken, inner_place, its_name, named_remainder, nothing_later}
use Rattle.cg_resolve_def.specs.Shaped.{AreShapedPatterned, AreShapedPatterns, IsShapedPattern, patterned_length}
use Rattle.cg_resolve_laws.proofs.Lists.{among_cases, among_left, among_right}
use Rattle.cg_resolve_laws.proofs.Proper.{IsProper, proper_annot, proper_lets, proper_take, proper_var}
use Rattle.cg_resolve_laws.proofs.Scopes.{Covers, Extends, HasRemainder, covers_both, covers_first, covers_later, covers_none, further, itself, remainder_extends, remainder_length, remainder_stands, stands_in, with_entry}

-- the names that are bound later: those of a pattern that isn't a name
abbrev pub deferred : Option (List ℕ) → List (List ℕ) → List (List ℕ)
deferred (Some n) names = []
deferred None names = names

-- a pattern that is a name binds it
pub name_bound : (x : Pattern) (n : List ℕ) → its_name x ≡ Some n → bound x ≡ n ∷ []
name_bound (patterns.name p m) n is = ap (λ l. l ∷ []) (let same : m ≡ n = cc in same)
name_bound (patterns.any p) n is = absurd (cc)
name_bound (patterns.unit p) n is = absurd (cc)
name_bound (patterns.paren p x) n is = name_bound x n is
name_bound (patterns.tuple p xs) n is = absurd (cc)
name_bound (patterns.fields p fs) n is = absurd (cc)
name_bound (patterns.take p m fs) n is = absurd (cc)

module _ (arities : List ℕ) (vars : ℕ) (P : ℕ → Type 0) where
  abbrev Proper : ℕ → Term → Type 0
  Proper = IsProper arities vars P

  -- what goes on with one scope, which has these names beside those before
  pub record Binds (names : List (List ℕ)) (scope : Scope) (body : Rest → Term) : Type 0 where
    pub after : Scope
    pub extends : Extends scope after
    pub covers : Covers after names
    pub proper : (rest : Rest) → IsProper arities vars P (length after) (rest after) → IsProper arities vars P (length scope) (body rest)

  -- what does so in each scope that is so long at least
  abbrev pub BindsLater : List (List ℕ) → ℕ → Later → Type 0
  BindsLater names depth later = (scope : Scope) → depth ≤ length scope → Binds names scope (later scope)

  pub binds_nothing : (scope : Scope) → Binds [] scope (λ rest. rest scope)
  binds_nothing scope = record { after = scope; extends = itself scope; covers = covers_none scope; proper = λ rest h. h }

  -- one behind another
  pub binds_both : (names others : List (List ℕ)) (scope : Scope) (body : Rest → Term) (next : Later) → (b : Binds names scope body) → Binds others b.after (next b.after) → Binds (others ++ names) scope (λ rest. body (λ scope'. next scope' rest))
  binds_both names others scope body next b c = record {
    after = c.after;
    extends = further scope b.after c.after b.extends c.extends;
    covers = covers_both c.after others names c.covers (covers_later b.after c.after names b.covers c.extends);
    proper = λ rest h. b.proper (λ scope'. next scope' rest) (c.proper rest h);
  }

  -- fields or components that are taken from a term: what is left, the scope, and what is bound later
  pub record Taken (names : List (List ℕ)) (count : ℕ) (scope : Scope) (body : (ℕ → Term → Scope → Later → Term) → Term) : Type 0 where
    pub number : ℕ
    pub left : Term
    pub after : Scope
    pub later : Later
    pub names_later : List (List ℕ)
    pub extends : Extends scope after
    pub proper_left : IsProper arities vars P (length after) left
    pub binds : BindsLater names_later (length after) later
    pub covers : (n : List ℕ) → is_among names n ≡ true → (stands_in after n ≡ true) ⊎ (is_among names_later n ≡ true)
    pub remainder : 1 ≤ count → HasRemainder after
    pub proper : (go : ℕ → Term → Scope → Later → Term) → IsProper arities vars P (length after) (go number left after later) → IsProper arities vars P (length scope) (body go)

  taken_none : (e : Term) (scope : Scope) → Proper (length scope) e → Taken [] 0 scope (λ go. go 0 e scope nothing_later)
  taken_none e scope h = record {
    number = 0;
    left = e;
    after = scope;
    later = nothing_later;
    names_later = [];
    extends = itself scope;
    proper_left = h;
    binds = λ s le. binds_nothing s;
    covers = λ n among. absurd (let no : false ≡ true = among in cc);
    remainder = λ le. absurd (omega arith);
    proper = λ go k. k;
  }

  -- a pattern that isn't a name is bound later from its position
  binds_behind : (x : Pattern) (later : Later) (i depth : ℕ) (names : List (List ℕ)) → i < depth → ((q : Place) (e : Term) (scope : Scope) → Proper (length scope) e → Binds (bound x) scope (bound_to q x e scope))
      → BindsLater names depth later → BindsLater (deferred (its_name x) (bound x) ++ names) depth (behind later x i)
  binds_behind (patterns.name p n) later i depth names lt binds before = before
  binds_behind (patterns.any p) later i depth names lt binds before = λ scope le. let b = before scope le in binds_both names _ scope (later scope) (bound_to p (patterns.any p) (term p (var i))) b (binds p (term p (var i)) b.after (proper_var arities vars P (length b.after) i p (let k = b.extends.long in omega arith)))
  binds_behind (patterns.unit p) later i depth names lt binds before = λ scope le. let b = before scope le in binds_both names _ scope (later scope) (bound_to p (patterns.unit p) (term p (var i))) b (binds p (term p (var i)) b.after (proper_var arities vars P (length b.after) i p (let k = b.extends.long in omega arith)))
  binds_behind (patterns.paren p x) later i depth names lt binds before = binds_behind x later i depth names lt binds before
  binds_behind (patterns.tuple p xs) later i depth names lt binds before = λ scope le. let b = before scope le in binds_both names _ scope (later scope) (bound_to p (patterns.tuple p xs) (term p (var i))) b (binds p (term p (var i)) b.after (proper_var arities vars P (length b.after) i p (let k = b.extends.long in omega arith)))
  binds_behind (patterns.fields p fs) later i depth names lt binds before = λ scope le. let b = before scope le in binds_both names _ scope (later scope) (bound_to p (patterns.fields p fs) (term p (var i))) b (binds p (term p (var i)) b.after (proper_var arities vars P (length b.after) i p (let k = b.extends.long in omega arith)))
  binds_behind (patterns.take p n fs) later i depth names lt binds before = λ scope le. let b = before scope le in binds_both names _ scope (later scope) (bound_to p (patterns.take p n fs) (term p (var i))) b (binds p (term p (var i)) b.after (proper_var arities vars P (length b.after) i p (let k = b.extends.long in omega arith)))

  -- one part more: its name, if it is one, stands in the scope, and else is bound later
  taken_more : (p : Place) (ats : List At) (x : Pattern) (count : ℕ) (scope : Scope) (body : (ℕ → Term → Scope → Later → Term) → Term) (label : ℕ → At) (step : ℕ → ℕ) → Taken (names_of ats) count scope body
      → ((q : Place) (e : Term) (scope : Scope) → Proper (length scope) e → Binds (bound x) scope (bound_to q x e scope))
      → Taken (names_of (ats ++ variables x)) (count + 1) scope
      (λ go. body (λ i e' scope' later. term p (take_field e' (label i) p (inner_place x) (go (step i) (term p (var (length scope'))) (its_name x ∷ None ∷ scope') (behind later x (length scope' + 1))))))
  taken_more p ats x count scope body label step t binds = record {
    number = step t.number;
    left = term p (var (length t.after));
    after = its_name x ∷ None ∷ t.after;
    later = behind t.later x (length t.after + 1);
    names_later = deferred (its_name x) (bound x) ++ t.names_later;
    extends = with_entry (its_name x) scope (None ∷ t.after) (with_entry None scope t.after t.extends);
    proper_left = proper_var arities vars P (suc (suc (length t.after))) (length t.after) p (omega arith);
    binds = binds_behind x t.later (length t.after + 1) (suc (suc (length t.after))) t.names_later (omega arith) binds (λ s le. t.binds s (omega arith));
    covers = λ n among. pick n (among_cases (names_of ats) (bound x) n (ap (λ l. is_among l n) (sym (map-append (λ (at : At). at.name) ats (variables x))) ∙ among));
    remainder = λ le. record { inner = its_name x; outer = t.after; is = refl };
    proper = λ go k. t.proper
        (λ i e' scope' later. term p (take_field e' (label i) p (inner_place x) (go (step i) (term p (var (length scope'))) (its_name x ∷ None ∷ scope') (behind later x (length scope' + 1)))))
        (proper_take arities vars P (length t.after) p t.left (label t.number) p (inner_place x) _ t.proper_left k);
  }
    where
      new : (n : List ℕ) (o : Option (List ℕ)) → its_name x ≡ o → is_among (bound x) n ≡ true → (stands_in (o ∷ None ∷ t.after) n ≡ true) ⊎ (is_among (deferred o (bound x) ++ t.names_later) n ≡ true)
      new n (Some m) is among =
          inl ((covers_first m (None ∷ t.after)).at n (ap (λ l. is_among l n) (sym (name_bound x m is)) ∙ among))
      new n None is among = inr (among_left (bound x) t.names_later n among)

      old : (n : List ℕ) → (stands_in t.after n ≡ true) ⊎ (is_among t.names_later n ≡ true) → (stands_in (its_name x ∷ None ∷ t.after) n ≡ true) ⊎ (is_among (deferred (its_name x) (bound x) ++ t.names_later) n ≡ true)
      old n (inl h) = inl ((with_entry (its_name x) t.after (None ∷ t.after) (with_entry None t.after t.after (itself t.after))).kept n h)
      old n (inr h) = inr (among_right (deferred (its_name x) (bound x)) t.names_later n h)

      pick : (n : List ℕ) → (is_among (names_of ats) n ≡ true) ⊎ (is_among (bound x) n ≡ true) → (stands_in (its_name x ∷ None ∷ t.after) n ≡ true) ⊎ (is_among (deferred (its_name x) (bound x) ++ t.names_later) n ≡ true)
      pick n (inl h) = old n (t.covers n h)
      pick n (inr h) = new n (its_name x) refl h

  -- what is taken, and then bound later
  binds_taken : (names : List (List ℕ)) (count : ℕ) (scope : Scope) (body : (ℕ → Term → Scope → Later → Term) → Term) → Taken names count scope body → Binds names scope (λ rest. body (λ i e' scope' later. later scope' rest))
  binds_taken names count scope body t =
      let b = t.binds t.after (omega arith) in
      record {
        after = b.after;
        extends = further scope t.after b.after t.extends b.extends;
        covers = record { at = λ n among. stands b n (t.covers n among) };
        proper = λ rest h. t.proper (λ i e' scope' later. later scope' rest) (b.proper rest h);
      }
    where
      stands : (b : Binds t.names_later t.after (t.later t.after)) (n : List ℕ) → (stands_in t.after n ≡ true) ⊎ (is_among t.names_later n ≡ true) → stands_in b.after n ≡ true
      stands b n (inl h) = b.extends.kept n h
      stands b n (inr h) = b.covers.at n h

  -- the same where the last remainder takes a name
  binds_remainder : (m : List ℕ) (names : List (List ℕ)) (count : ℕ) (scope : Scope) (body : (ℕ → Term → Scope → Later → Term) → Term) → 1 ≤ count → Taken names count scope body
      → Binds (m ∷ names) scope (λ rest. body (λ i e' scope' later. later (named_remainder m scope') rest))
  binds_remainder m names count scope body some t =
      let r = remainder_extends m t.after (t.remainder some) in
      let b = t.binds (named_remainder m t.after) r.long in
      record {
        after = b.after;
        extends = further scope t.after b.after t.extends (further t.after (named_remainder m t.after) b.after r b.extends);
        covers = record { at = λ n among. stands b n (among_cases (m ∷ []) names n among) };
        proper = λ rest h. t.proper (λ i e' scope' later. later (named_remainder m scope') rest)
            (carry (λ k. IsProper arities vars P k (t.later (named_remainder m t.after) rest)) (remainder_length m t.after) (b.proper rest h));
      }
    where
      one : (b : Bool) → (b || false) ≡ true → b ≡ true
      one true h = refl
      one false h = absurd (cc)

      either : (b : Binds t.names_later (named_remainder m t.after) (t.later (named_remainder m t.after))) (n : List ℕ) → (stands_in t.after n ≡ true) ⊎ (is_among t.names_later n ≡ true) → stands_in b.after n ≡ true
      either b n (inl h) = b.extends.kept n ((remainder_extends m t.after (t.remainder some)).kept n h)
      either b n (inr h) = b.covers.at n h

      stands : (b : Binds t.names_later (named_remainder m t.after) (t.later (named_remainder m t.after))) (n : List ℕ) → (is_among (m ∷ []) n ≡ true) ⊎ (is_among names n ≡ true) → stands_in b.after n ≡ true
      stands b n (inl h) = b.extends.kept n (remainder_stands m n t.after (t.remainder some) (one _ h))
      stands b n (inr h) = either b n (t.covers n h)

  mutual
    -- a term that is bound to a pattern
    pub binds_to : (q : Place) (x : Pattern) (e : Term) (scope : Scope) → IsShapedPattern x → IsProper arities vars P (length scope) e → Binds (bound x) scope (bound_to q x e scope)
    binds_to q (patterns.name p n) e scope shaped h = record {
      after = Some n ∷ scope;
      extends = with_entry (Some n) scope scope (itself scope);
      covers = covers_first n scope;
      proper = λ rest k. proper_lets arities vars P (length scope) q p e (rest (Some n ∷ scope)) h k;
    }
    binds_to q (patterns.any p) e scope shaped h = record {
      after = None ∷ scope;
      extends = with_entry None scope scope (itself scope);
      covers = covers_none (None ∷ scope);
      proper = λ rest k. proper_lets arities vars P (length scope) q p e (rest (None ∷ scope)) h k;
    }
    binds_to q (patterns.unit p) e scope shaped h = record {
      after = None ∷ scope;
      extends = with_entry None scope scope (itself scope);
      covers = covers_none (None ∷ scope);
      proper = λ rest k. proper_lets arities vars P (length scope) q p (term p (annot e (record { place = p; ty = kernel.unit }))) (rest (None ∷ scope))
          (proper_annot arities vars P (length scope) p e (record { place = p; ty = kernel.unit }) h tt) k;
    }
    binds_to q (patterns.paren p x) e scope shaped h = binds_to q x e scope shaped h
    binds_to q (patterns.tuple p xs) e scope shaped h = binds_taken _ (patterns_length xs) scope (λ go. components_taken p xs e scope go) (components_bound p xs e scope shaped.1 h)
    binds_to q (patterns.fields p fs) e scope shaped h = binds_taken _ (patterned_length fs) scope (λ go. fields_taken p fs e scope (go 0)) (fields_bound p fs e scope shaped.1 h)
    binds_to q (patterns.take p n fs) e scope shaped h = binds_remainder n _ (patterned_length fs) scope (λ go. fields_taken p fs e scope (go 0)) shaped.0 (fields_bound p fs e scope shaped.1 h)

    fields_bound : (p : Place) (fs : FieldPatterns) (e : Term) (scope : Scope) → AreShapedPatterned fs → Proper (length scope) e → Taken (names_of (field_variables fs)) (patterned_length fs) scope (λ go. fields_taken p fs e scope (go 0))
    fields_bound p patterns.no_fields e scope shaped h = taken_none e scope h
    fields_bound p (patterns.and_field fs at x) e scope shaped h =
        taken_more p (field_variables fs) x (patterned_length fs) scope (λ go. fields_taken p fs e scope (go 0)) (λ i. at) (λ i. 0) (fields_bound p fs e scope shaped.0 h) (λ q e' scope' k. binds_to q x e' scope' shaped.1 k)

    components_bound : (p : Place) (xs : Patterns) (e : Term) (scope : Scope) → AreShapedPatterns xs → Proper (length scope) e → Taken (names_of (all_variables xs)) (patterns_length xs) scope (λ go. components_taken p xs e scope go)
    components_bound p patterns.no_patterns e scope shaped h = taken_none e scope h
    components_bound p (patterns.and_pattern xs x) e scope shaped h =
        taken_more p (all_variables xs) x (patterns_length xs) scope (λ go. components_taken p xs e scope go) (λ i. record { place = inner_place x; name = component i }) (λ i. i + 1) (components_bound p xs e scope shaped.0 h)
        (λ q e' scope' k. binds_to q x e' scope' shaped.1 k)

  -- a term that is bound at the pattern's own place
  pub binds_at : (x : Pattern) (e : Term) (scope : Scope) → IsShapedPattern x → IsProper arities vars P (length scope) e → Binds (bound x) scope (bind x e scope)
  binds_at x e scope shaped h = binds_to (inner_place x) x e scope shaped h
