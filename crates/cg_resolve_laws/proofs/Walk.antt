-- What an expression without a fault is as a term of the kernel is proper in each scope that covers the names that are bound round it.
use Rattle.std.proofs.Common.{◌≡◌, ℕ, suc, ◌+◌, ◌<◌, ◌≤◌, ◌||◌, Bool, true, false, cond, List, [], ◌∷◌, ◌++◌, length, Option, Some, None, refl, sym, ap, ◌∙◌, subst as carry, arith}
use Rattle.std.proofs.lemmas.List.Elements.{All-append, All-cons, All-nil, Contains-append_left, Contains-append_right}
use Rattle.std.specs.List.{All, Contains, slice_get}
use Rattle.cg_base.specs.declared.fun.Fun.TheVariants.{User, Lib as OfLib}
use Rattle.cg_base.specs.declared.place.Place.{Place}
use Rattle.cg_core.specs.declared.at.At.{At}
use Rattle.cg_core.specs.declared.op.Op.{Op}
use Rattle.cg_core.specs.declared.op.Op.TheVariants as op
use Rattle.cg_core.specs.declared.term.Seen.{Seen}
use Rattle.cg_core.specs.Terms.{term, var, Arg, Named, end, field, fun, if_else, case_of, unit, esac}
use Rattle.cg_core_def.specs.Lawful.{AreSome, IsLawfulArg, IsLawfulType, field_names, library_arity, operands, fields_mentions, term_mentions}
use Rattle.cg_surface.specs.Written.{Written, Writtens}
use Rattle.cg_surface.specs.Written as types
use Rattle.cg_surface.specs.Patterns.{Pattern}
use Rattle.cg_surface.specs.Exprs.{Expr, Exprs, FieldExprs, Binds, Alts}
use Rattle.cg_surface.specs.Exprs as exprs
use Rattle.cg_surface.specs.Programs.{Entry}
use Rattle.cg_resolve_def.specs.Declared.{OfLibrary, OfProgram, function_named, is_among, library, looked_up}
use Rattle.cg_resolve_def.specs.Desugar.{parts_limit}
use Rattle.cg_resolve_def.specs.Expand.{Bodies, component, expanded, types_length}
use Rattle.cg_resolve_def.specs.Faults.{all_bound, binds_faults, bound, counted, expr_faults, field_with, function_faults, list_faults, match_faults, mention_faults, pattern_faults, put_faults, record_faults, seen_faults, type_faults, types_faults, unknown, user_faults, value_names}
use Rattle.cg_resolve_def.specs.Mentions.{binds_mentions, expr_mentions, list_mentions, match_mentions, values_mentions}
use Rattle.cg_resolve_def.specs.Takes.{exprs_length, values_length, widest, widest_alts, widest_binds, widest_expr, widest_list, widest_of, widest_values}
use Rattle.cg_resolve_def.specs.Terms.{Rest, Scope, Term, all_written, alternatives, bindings, body_term, cases, components_of, fields_of, first_place, function_of, inner_place, its_name, last_bound, let_bound, mention, observed, or_empty, or_zero, payload_bound, positions, puts, seen_bound, term_of, user_function, variable, written}
use Rattle.cg_resolve_def.proofs.Faultless.{none_left, none_right, not_again}
use Rattle.cg_resolve_def.specs.Shaped.{AreShapedBinds, AreShapedChoices, AreShapedExprs, AreShapedTypes, AreShapedValues, IsBinary, IsShapedExpr, IsShapedPattern, IsShapedType, IsUnary}
use Rattle.cg_resolve_laws.proofs.Expanded.{AreSound, component_apart, counted_same, looked_up_all, type_lawful, unknown_not}
use Rattle.cg_resolve_laws.proofs.Lists.{AreNew, field_none, new_here, one_new}
use Rattle.cg_resolve_laws.proofs.Patterns.{Binds as Binding, binds_at, binds_both, binds_nothing, binds_to, name_bound}
use Rattle.cg_resolve_laws.proofs.Proper.{AreProper, IsProper, proper_annot, proper_app, proper_case, proper_cast, proper_con, proper_esac, proper_fun, proper_if, proper_let_bang, proper_member, proper_op_one, proper_op_two, proper_put, proper_struct, proper_unit, proper_var}
use Rattle.cg_resolve_laws.proofs.Scopes.{Covers, Extends, covers_both, covers_first, covers_later, further, itself, named_entry, variable_there, variable_within, with_entry}

-- ---- numbers of operands, of components and of type arguments

unary_count : (o : Op) → IsUnary o → 1 ≡ operands o
unary_count op.Complement h = refl
unary_count op.Not h = refl
unary_count o h = absurd h

binary_count : (o : Op) → IsBinary o → 2 ≡ operands o
binary_count op.Complement h = absurd h
binary_count op.Not h = absurd h
binary_count o h = refl

-- each function of the library takes as many as its table says
library_same : (n : List ℕ) (l : OfLibrary) → looked_up library n ≡ Some l → library_arity l.lib ≡ l.arity
library_same n l is =
    looked_up_all (λ (f : OfLibrary). library_arity f.lib ≡ f.arity) library n l
    (refl, (refl, (refl, (refl, (refl, (refl, (refl, (refl, (refl, (refl, (refl, (refl, tt)))))))))))) is

-- the body of an alternative is bound as what is observed
payload_same : (o : Option (List ℕ)) (x : Pattern) (scope : Scope) → payload_bound o x scope ≡ seen_bound o x (inner_place x) scope
payload_same None x scope = refl
payload_same (Some n) x scope = refl

-- ---- observed variables

seen_within : (inside : List (List ℕ)) (scope : Scope) (ats : List At) → Covers scope inside → seen_faults inside ats ≡ [] → All (λ s. s.var < length scope) (positions scope ats)
seen_within inside scope [] covers none = All-nil (λ (s : Seen). s.var < length scope)
seen_within inside scope (at ∷ ats) covers none =
    let first = none_left (cond (is_among inside at.name) [] (unknown at.place ∷ [])) (seen_faults inside ats) none in
    let v = variable_there scope at.name (covers.at at.name (unknown_not (is_among inside at.name) at.place [] first)) in
    All-cons (λ (s : Seen). s.var < length scope) (record { var = or_zero (variable scope at.name); place = at.place }) (positions scope ats)
    (carry (λ o. or_zero o < length scope) (sym v.1) (variable_within scope at.name v.0 v.1))
    (seen_within inside scope ats covers (none_right (cond (is_among inside at.name) [] (unknown at.place ∷ [])) (seen_faults inside ats) none))

-- names of functions that may be mentioned
module _ (M : List ℕ → Type 0) where
  pub record AreNamed (ms : List (List ℕ)) : Type 0 where
    pub at : (m : List ℕ) → Contains ms m → M m

  named_left : (ns ms : List (List ℕ)) → AreNamed (ns ++ ms) → AreNamed ns
  named_left ns ms h = record { at = λ m has. h.at m (Contains-append_left ns ms m has) }

  named_right : (ns ms : List (List ℕ)) → AreNamed (ns ++ ms) → AreNamed ms
  named_right ns ms h = record { at = λ m has. h.at m (Contains-append_right ns ms m has) }

-- ---- what is bound

module _ (arities : List ℕ) (vars : ℕ) (P : ℕ → Type 0) where
  abbrev Made : ℕ → Term → Type 0
  Made = IsProper arities vars P

  -- a pattern whose value is the next entry
  seen_binds : (x : Pattern) (q : Place) (scope : Scope) → IsShapedPattern x → Binding arities vars P (bound x) (None ∷ scope) (seen_bound (its_name x) x q scope)
  seen_binds x q scope shaped = pick (its_name x) refl
    where
      pick : (o : Option (List ℕ)) → its_name x ≡ o → Binding arities vars P (bound x) (None ∷ scope) (seen_bound o x q scope)
      pick (Some n) is = record {
        after = Some n ∷ scope;
        extends = named_entry n scope;
        covers = carry (Covers (Some n ∷ scope)) (sym (name_bound x n is)) (covers_first n scope);
        proper = λ rest h. h;
      }
      pick None is = binds_at arities vars P x (term q (var (length scope))) (None ∷ scope) shaped (proper_var arities vars P (suc (length scope)) (length scope) q (omega arith))

  payload_binds : (x : Pattern) (scope : Scope) → IsShapedPattern x → Binding arities vars P (bound x) (None ∷ scope) (payload_bound (its_name x) x scope)
  payload_binds x scope shaped = carry (Binding arities vars P (bound x) (None ∷ scope)) (sym (payload_same (its_name x) x scope)) (seen_binds x (inner_place x) scope shaped)

  -- a binding of a `let`
  let_binds : (p q : Place) (x : Pattern) (e : Term) (seen : List At) (scope : Scope) → IsShapedPattern x → Made (length scope) e → All (λ s. s.var < length scope) (positions scope seen)
      → Binding arities vars P (bound x) scope (let_bound p q x e seen scope)
  let_binds p q x e [] scope shaped h all = binds_at arities vars P x e scope shaped h
  let_binds p q x e (at ∷ ats) scope shaped h all =
      let b = seen_binds x q scope shaped in
      record {
        after = b.after;
        extends = further scope (None ∷ scope) b.after (with_entry None scope scope (itself scope)) b.extends;
        covers = b.covers;
        proper = λ rest k. proper_let_bang arities vars P (length scope) p (inner_place x) (positions scope (at ∷ ats)) e (seen_bound (its_name x) x q scope rest) all h (b.proper rest k);
      }

  -- a last alternative
  last_binds : (p : Place) (head : Option (List ℕ)) (x : Pattern) (subject : Term) (scope : Scope) → IsShapedPattern x → Made (length scope) subject → Binding arities vars P (bound x) scope (last_bound p head x subject scope)
  last_binds p None x subject scope shaped h = binds_at arities vars P x subject scope shaped h
  last_binds p (Some n) x subject scope shaped h =
      binds_to arities vars P p x (term p (esac (record { place = p; name = n }) subject)) scope shaped (proper_esac arities vars P (length scope) p (record { place = p; name = n }) subject h)

  -- what goes on with one term and one scope
  record Goes (scope : Scope) (body : (Term → Scope → Term) → Term) : Type 0 where
    subject : Term
    after : Scope
    extends : Extends scope after
    proper_subject : IsProper arities vars P (length after) subject
    proper : (go : Term → Scope → Term) → IsProper arities vars P (length after) (go subject after) → IsProper arities vars P (length scope) (body go)

  observed_goes : (p q : Place) (e : Term) (seen : List At) (scope : Scope) → Made (length scope) e → All (λ s. s.var < length scope) (positions scope seen) → Goes scope (observed p q e seen scope)
  observed_goes p q e [] scope h all = record { subject = e; after = scope; extends = itself scope; proper_subject = h; proper = λ go k. k }
  observed_goes p q e (s ∷ ss) scope h all = record {
    subject = term q (var (length scope));
    after = None ∷ scope;
    extends = with_entry None scope scope (itself scope);
    proper_subject = proper_var arities vars P (suc (length scope)) (length scope) q (omega arith);
    proper = λ go k. proper_let_bang arities vars P (length scope) p q (positions scope (s ∷ ss)) e (go (term q (var (length scope))) (None ∷ scope)) all h k;
  }

  -- one field more in front
  one_field : (depth : ℕ) (n : List ℕ) (t : Term) (fs : Named Place) → is_among (field_names fs) n ≡ false → Made depth t → AreProper arities vars P depth fs → AreProper arities vars P depth (field n t fs)
  one_field depth n t fs new h rest = record {
    apart = (new, rest.apart);
    lawful = (h.lawful, rest.lawful);
    mentions = All-append P (term_mentions t) (fields_mentions fs) h.mentions rest.mentions;
  }

  no_field : (depth : ℕ) → AreProper arities vars P depth end
  no_field depth = record { apart = tt; lawful = tt; mentions = All-nil P }

-- ---- expressions

module _ (entries : List Entry) (known : Bodies) (names : List (List ℕ)) (arities : List ℕ) (M : List ℕ → Type 0) (P : ℕ → Type 0) (sound : (ms : List (List ℕ)) → AreSound entries known ms)
    (takes : (n : List ℕ) (f : OfProgram) → function_named entries n ≡ Some f → slice_get arities f.position ≡ Some (length f.vars))
    (may : (n : List ℕ) (f : OfProgram) → M n → function_named entries n ≡ Some f → P f.position) where
  abbrev Whole : ℕ → Term → Type 0
  Whole = IsProper arities (length names) P

  abbrev LawfulArgs : List Arg → Type 0
  LawfulArgs = All (IsLawfulArg arities (length names))

  written_lawful : (t : Written) → type_faults entries names t ≡ [] → IsShapedType t → widest t ≤ parts_limit → IsLawfulType (length names) (expanded known names t)
  written_lawful t none shaped narrow = type_lawful entries known names t none shaped narrow (sound _)

  args_lawful : (ts : Writtens) (args : List Arg) → types_faults entries names ts ≡ [] → AreShapedTypes ts → widest_of ts ≤ parts_limit → LawfulArgs args → LawfulArgs (all_written entries known names ts args)
  args_lawful types.no_types args none shaped narrow all = all
  args_lawful (types.and_type ts t) args none shaped narrow all =
      args_lawful ts (written entries known names t ∷ args) (none_left (types_faults entries names ts) (type_faults entries names t) none) shaped.0 (omega (arith, narrow))
      (All-cons (IsLawfulArg arities (length names)) (written entries known names t) args
      (written_lawful t (none_right (types_faults entries names ts) (type_faults entries names t) none) shaped.1 (omega (arith, narrow))) all)

  args_length : (ts : Writtens) (args : List Arg) → length (all_written entries known names ts args) ≡ types_length ts + length args
  args_length types.no_types args = omega arith
  args_length (types.and_type ts t) args = omega (arith, args_length ts (written entries known names t ∷ args))

  -- a name, as a variable, a function of the library or one of the program
  mention_proper : (inside : List (List ℕ)) (scope : Scope) (p : Place) (n : List ℕ) (ts : Writtens) → Covers scope inside → mention_faults entries inside p n (types_length ts) ≡ []
      → AreNamed M (cond (is_among inside n) [] (n ∷ [])) → LawfulArgs (all_written entries known names ts []) → Whole (length scope) (mention entries known names p n ts (variable scope n))
  mention_proper inside scope p n ts covers none named lawful = by_variable (variable scope n) refl
    where
      count : length (all_written entries known names ts []) ≡ types_length ts
      count = omega (arith, args_length ts [])

      by_user : (o : Option OfProgram) → function_named entries n ≡ o → user_faults p (types_length ts) o ≡ [] → AreNamed M (n ∷ [])
          → Whole (length scope) (term p (fun (user_function o) (all_written entries known names ts [])))
      by_user None is h k = absurd (cc)
      by_user (Some f) is h k =
          proper_fun arities (length names) P (length scope) p (User f.position) (all_written entries known names ts [])
          (takes n f is ∙ ap Some (sym (counted_same p (length f.vars) (types_length ts) h) ∙ sym count)) lawful
          (All-cons P f.position [] (may n f (k.at n (0, omega arith, refl)) is) (All-nil P))

      by_function : (o : Option OfLibrary) → looked_up library n ≡ o → function_faults p (types_length ts) o (function_named entries n) ≡ [] → AreNamed M (n ∷ [])
          → Whole (length scope) (term p (fun (function_of o (function_named entries n)) (all_written entries known names ts [])))
      by_function (Some l) is h k =
          proper_fun arities (length names) P (length scope) p (OfLib l.lib) (all_written entries known names ts [])
          (library_same n l is ∙ sym (counted_same p l.arity (types_length ts) h) ∙ sym count) lawful (All-nil P)
      by_function None is h k = by_user (function_named entries n) refl h k

      by_among : (b : Bool) → is_among inside n ≡ b → cond b (counted p 0 (types_length ts)) (function_faults p (types_length ts) (looked_up library n) (function_named entries n)) ≡ [] → AreNamed M (cond b [] (n ∷ [])) → variable scope n ≡ None
          → Whole (length scope) (mention entries known names p n ts None)
      by_among true e h k nowhere = absurd (let v = variable_there scope n (covers.at n e) in let no : None ≡ Some v.0 = sym nowhere ∙ v.1 in cc)
      by_among false e h k nowhere = by_function (looked_up library n) refl h k

      by_variable : (o : Option ℕ) → variable scope n ≡ o → Whole (length scope) (mention entries known names p n ts o)
      by_variable (Some i) is = proper_var arities (length names) P (length scope) i p (variable_within scope n i is)
      by_variable None is = by_among (is_among inside n) refl none named is

  some_components : (scope : Scope) (es : Exprs) (fs : Named Place) → AreSome (field_names fs) → AreSome (field_names (components_of entries known names scope es fs))
  some_components scope exprs.no_exprs fs h = h
  some_components scope (exprs.and_expr es e) fs h = some_components scope es _ tt

  some_fields : (scope : Scope) (es : FieldExprs) (fs : Named Place) → AreSome (field_names fs) → AreSome (field_names (fields_of entries known names scope es fs))
  some_fields scope exprs.no_fields fs h = h
  some_fields scope (exprs.and_field es at e) fs h = some_fields scope es _ tt

  are_components : (scope : Scope) (es : Exprs) → 2 ≤ exprs_length es → AreSome (field_names (components_of entries known names scope es end))
  are_components scope exprs.no_exprs h = absurd (omega arith)
  are_components scope (exprs.and_expr es e) h = some_components scope es _ tt

  are_fields : (scope : Scope) (es : FieldExprs) → 1 ≤ values_length es → AreSome (field_names (fields_of entries known names scope es end))
  are_fields scope exprs.no_fields h = absurd (omega arith)
  are_fields scope (exprs.and_field es at e) h = some_fields scope es _ tt

  -- the names round what follows bindings
  inner_covers : (inside more : List (List ℕ)) (scope : Scope) (body : Rest → Term) → Covers scope inside → (b : Binding arities (length names) P more scope body) → Covers b.after (more ++ inside)
  inner_covers inside more scope body covers b = covers_both b.after more inside b.covers (covers_later scope b.after inside covers b.extends)

  mutual
    pub term_proper : (inside : List (List ℕ)) (scope : Scope) (e : Expr) → Covers scope inside → expr_faults entries names inside e ≡ [] → IsShapedExpr e → widest_expr e ≤ parts_limit → AreNamed M (expr_mentions inside e)
        → IsProper arities (length names) P (length scope) (term_of entries known names scope e)
    term_proper inside scope (exprs.name p n ts) covers none shaped narrow named =
        mention_proper inside scope p n ts covers (none_left (mention_faults entries inside p n (types_length ts)) (types_faults entries names ts) none) named
        (args_lawful ts [] (none_right (mention_faults entries inside p n (types_length ts)) (types_faults entries names ts) none) shaped narrow (All-nil (IsLawfulArg arities (length names))))
    term_proper inside scope (exprs.number p v) covers none shaped narrow named = record { lawful = tt; mentions = All-nil P }
    term_proper inside scope (exprs.bool p b) covers none shaped narrow named = record { lawful = tt; mentions = All-nil P }
    term_proper inside scope (exprs.unit p) covers none shaped narrow named = record { lawful = tt; mentions = All-nil P }
    term_proper inside scope (exprs.paren p a) covers none shaped narrow named = term_proper inside scope a covers none shaped narrow named
    term_proper inside scope (exprs.sig p a t) covers none shaped narrow named =
        proper_annot arities (length names) P (length scope) p (term_of entries known names scope a) (written entries known names t)
        (term_proper inside scope a covers (none_left (expr_faults entries names inside a) (type_faults entries names t) none) shaped.0 (omega (arith, narrow)) named)
        (written_lawful t (none_right (expr_faults entries names inside a) (type_faults entries names t) none) shaped.1 (omega (arith, narrow)))
    term_proper inside scope (exprs.tuple p es) covers none shaped narrow named =
        proper_struct arities (length names) P (length scope) p (components_of entries known names scope es end) (are_components scope es shaped.0)
        (components_proper inside scope es end covers none shaped.1 (omega (arith, narrow)) (omega (arith, narrow)) named (λ i lt. refl) (no_field arities (length names) P (length scope)))
    term_proper inside scope (exprs.fields p fs) covers none shaped narrow named =
        proper_struct arities (length names) P (length scope) p (fields_of entries known names scope fs end) (are_fields scope fs shaped.0)
        (fields_proper inside scope fs end covers none shaped.1 (omega (arith, narrow)) named (λ n among. refl) (no_field arities (length names) P (length scope)))
    term_proper inside scope (exprs.con p n) covers none shaped narrow named = proper_con arities (length names) P (length scope) p n (term p unit) (proper_unit arities (length names) P (length scope) p)
    term_proper inside scope (exprs.con_of p n a) covers none shaped narrow named =
        proper_con arities (length names) P (length scope) p n (term_of entries known names scope a) (term_proper inside scope a covers none shaped narrow named)
    term_proper inside scope (exprs.app p f a) covers none shaped narrow named =
        proper_app arities (length names) P (length scope) p (term_of entries known names scope f) (term_of entries known names scope a)
        (term_proper inside scope f covers (none_left (expr_faults entries names inside f) (expr_faults entries names inside a) none) shaped.0 (omega (arith, narrow)) (named_left M (expr_mentions inside f) (expr_mentions inside a) named))
        (term_proper inside scope a covers (none_right (expr_faults entries names inside f) (expr_faults entries names inside a) none) shaped.1 (omega (arith, narrow)) (named_right M (expr_mentions inside f) (expr_mentions inside a) named))
    term_proper inside scope (exprs.member p a at) covers none shaped narrow named =
        proper_member arities (length names) P (length scope) p (term_of entries known names scope a) at (term_proper inside scope a covers none shaped narrow named)
    term_proper inside scope (exprs.put p a fs) covers none shaped narrow named =
        puts_proper inside scope p (term_of entries known names scope a) fs covers (none_right (expr_faults entries names inside a) (put_faults entries names inside fs) none) shaped.2 (omega (arith, narrow))
        (named_right M (expr_mentions inside a) (values_mentions inside fs) named)
        (term_proper inside scope a covers (none_left (expr_faults entries names inside a) (put_faults entries names inside fs) none) shaped.1 (omega (arith, narrow)) (named_left M (expr_mentions inside a) (values_mentions inside fs) named))
    term_proper inside scope (exprs.unary p o a) covers none shaped narrow named =
        proper_op_one arities (length names) P (length scope) p o (term_of entries known names scope a) (unary_count o shaped.0) (term_proper inside scope a covers none shaped.1 narrow named)
    term_proper inside scope (exprs.upcast p a) covers none shaped narrow named =
        proper_cast arities (length names) P (length scope) p (term_of entries known names scope a) (term_proper inside scope a covers none shaped narrow named)
    term_proper inside scope (exprs.binary p o a b) covers none shaped narrow named =
        proper_op_two arities (length names) P (length scope) p o (term_of entries known names scope a) (term_of entries known names scope b) (binary_count o shaped.0)
        (term_proper inside scope a covers (none_left (expr_faults entries names inside a) (expr_faults entries names inside b) none) shaped.1 (omega (arith, narrow)) (named_left M (expr_mentions inside a) (expr_mentions inside b) named))
        (term_proper inside scope b covers (none_right (expr_faults entries names inside a) (expr_faults entries names inside b) none) shaped.2 (omega (arith, narrow)) (named_right M (expr_mentions inside a) (expr_mentions inside b) named))
    term_proper inside scope (exprs.lets p bs b) covers none shaped narrow named =
        let t = bindings_bind inside scope p bs covers (none_left (binds_faults entries names inside bs) (expr_faults entries names (all_bound bs ++ inside) b) none) shaped.1 (omega (arith, narrow))
        (named_left M (binds_mentions inside bs) (expr_mentions (all_bound bs ++ inside) b) named) in
        t.proper (λ scope'. term_of entries known names scope' b)
        (term_proper (all_bound bs ++ inside) t.after b (inner_covers inside (all_bound bs) scope (bindings entries known names p bs scope) covers t)
        (none_right (binds_faults entries names inside bs) (expr_faults entries names (all_bound bs ++ inside) b) none) shaped.2 (omega (arith, narrow))
        (named_right M (binds_mentions inside bs) (expr_mentions (all_bound bs ++ inside) b) named))
    term_proper inside scope (exprs.if_else p c seen a b) covers none shaped narrow named =
        let front = none_left (expr_faults entries names inside c ++ seen_faults inside seen ++ expr_faults entries names inside a) (expr_faults entries names inside b) none in
        let head = none_left (expr_faults entries names inside c ++ seen_faults inside seen) (expr_faults entries names inside a) front in
        let said = named_left M (expr_mentions inside c ++ expr_mentions inside a) (expr_mentions inside b) named in
        let g = observed_goes arities (length names) P p (first_place c) (term_of entries known names scope c) seen scope
        (term_proper inside scope c covers (none_left (expr_faults entries names inside c) (seen_faults inside seen) head) shaped.0 (omega (arith, narrow)) (named_left M (expr_mentions inside c) (expr_mentions inside a) said))
        (seen_within inside scope seen covers (none_right (expr_faults entries names inside c) (seen_faults inside seen) head)) in
        let inner = covers_later scope g.after inside covers g.extends in
        g.proper (λ e scope'. term p (if_else e (term_of entries known names scope' a) (term_of entries known names scope' b)))
        (proper_if arities (length names) P (length g.after) p g.subject (term_of entries known names g.after a) (term_of entries known names g.after b) g.proper_subject
        (term_proper inside g.after a inner (none_right (expr_faults entries names inside c ++ seen_faults inside seen) (expr_faults entries names inside a) front) shaped.1 (omega (arith, narrow)) (named_right M (expr_mentions inside c) (expr_mentions inside a) said))
        (term_proper inside g.after b inner (none_right (expr_faults entries names inside c ++ seen_faults inside seen ++ expr_faults entries names inside a) (expr_faults entries names inside b) none) shaped.2 (omega (arith, narrow))
        (named_right M (expr_mentions inside c ++ expr_mentions inside a) (expr_mentions inside b) named)))
    term_proper inside scope (exprs.match_of p e seen choices) covers none shaped narrow named =
        let head = none_left (expr_faults entries names inside e ++ seen_faults inside seen) (match_faults entries names inside choices) none in
        let g = observed_goes arities (length names) P p (first_place e) (term_of entries known names scope e) seen scope
        (term_proper inside scope e covers (none_left (expr_faults entries names inside e) (seen_faults inside seen) head) shaped.2 (omega (arith, narrow)) (named_left M (expr_mentions inside e) (match_mentions inside choices) named))
        (seen_within inside scope seen covers (none_right (expr_faults entries names inside e) (seen_faults inside seen) head)) in
        g.proper (λ subject scope'. alternatives entries known names choices subject scope')
        (alternatives_proper inside g.after choices g.subject (covers_later scope g.after inside covers g.extends) (none_right (expr_faults entries names inside e ++ seen_faults inside seen) (match_faults entries names inside choices) none)
        shaped.3 (omega (arith, narrow)) (named_right M (expr_mentions inside e) (match_mentions inside choices) named) g.proper_subject)

    components_proper : (inside : List (List ℕ)) (scope : Scope) (es : Exprs) (fs : Named Place) → Covers scope inside → list_faults entries names inside es ≡ [] → AreShapedExprs es → widest_list es ≤ parts_limit → exprs_length es ≤ parts_limit
        → AreNamed M (list_mentions inside es) → ((i : ℕ) → i < exprs_length es → is_among (field_names fs) (component i) ≡ false) → AreProper arities (length names) P (length scope) fs
        → AreProper arities (length names) P (length scope) (components_of entries known names scope es fs)
    components_proper inside scope exprs.no_exprs fs covers none shaped narrow short named new rest = rest
    components_proper inside scope (exprs.and_expr es e) fs covers none shaped narrow short named new rest =
        components_proper inside scope es _ covers (none_left (list_faults entries names inside es) (expr_faults entries names inside e) none) shaped.0 (omega (arith, narrow)) (omega (arith, short))
        (named_left M (list_mentions inside es) (expr_mentions inside e) named)
        (λ i lt. ap (λ b. b || is_among (field_names fs) (component i)) (component_apart i (exprs_length es) lt (omega (arith, short))) ∙ new i (omega (arith, lt)))
        (one_field arities (length names) P (length scope) (component (exprs_length es)) (term_of entries known names scope e) fs (new (exprs_length es) (omega arith))
        (term_proper inside scope e covers (none_right (list_faults entries names inside es) (expr_faults entries names inside e) none) shaped.1 (omega (arith, narrow)) (named_right M (list_mentions inside es) (expr_mentions inside e) named)) rest)

    fields_proper : (inside : List (List ℕ)) (scope : Scope) (es : FieldExprs) (fs : Named Place) → Covers scope inside → record_faults entries names inside es ≡ [] → AreShapedValues es → widest_values es ≤ parts_limit
        → AreNamed M (values_mentions inside es) → AreNew (value_names es) (field_names fs) → AreProper arities (length names) P (length scope) fs → AreProper arities (length names) P (length scope) (fields_of entries known names scope es fs)
    fields_proper inside scope exprs.no_fields fs covers none shaped narrow named new rest = rest
    fields_proper inside scope (exprs.and_field es at e) fs covers none shaped narrow named new rest =
        let of_field = field_none (value_names es) at (expr_faults entries names inside e)
        (none_right (record_faults entries names inside es) (field_with (value_names es) at (expr_faults entries names inside e)) none) in
        fields_proper inside scope es _ covers (none_left (record_faults entries names inside es) (field_with (value_names es) at (expr_faults entries names inside e)) none) shaped.0 (omega (arith, narrow))
        (named_left M (values_mentions inside es) (expr_mentions inside e) named)
        (one_new (value_names es) at.name (field_names fs) (not_again (value_names es) at.place at.name of_field.0) new)
        (one_field arities (length names) P (length scope) at.name (term_of entries known names scope e) fs (new_here (value_names es) at.name (field_names fs) new)
        (term_proper inside scope e covers of_field.1 shaped.1 (omega (arith, narrow)) (named_right M (values_mentions inside es) (expr_mentions inside e) named)) rest)

    puts_proper : (inside : List (List ℕ)) (scope : Scope) (p : Place) (e : Term) (fs : FieldExprs) → Covers scope inside → put_faults entries names inside fs ≡ [] → AreShapedValues fs → widest_values fs ≤ parts_limit
        → AreNamed M (values_mentions inside fs) → Whole (length scope) e → Whole (length scope) (puts entries known names p scope e fs)
    puts_proper inside scope p e exprs.no_fields covers none shaped narrow named h = h
    puts_proper inside scope p e (exprs.and_field fs at a) covers none shaped narrow named h =
        proper_put arities (length names) P (length scope) p (puts entries known names p scope e fs) at (term_of entries known names scope a)
        (puts_proper inside scope p e fs covers (none_left (put_faults entries names inside fs) (expr_faults entries names inside a) none) shaped.0 (omega (arith, narrow)) (named_left M (values_mentions inside fs) (expr_mentions inside a) named) h)
        (term_proper inside scope a covers (none_right (put_faults entries names inside fs) (expr_faults entries names inside a) none) shaped.1 (omega (arith, narrow)) (named_right M (values_mentions inside fs) (expr_mentions inside a) named))

    bindings_bind : (inside : List (List ℕ)) (scope : Scope) (p : Place) (bs : Binds) → Covers scope inside → binds_faults entries names inside bs ≡ [] → AreShapedBinds bs → widest_binds bs ≤ parts_limit → AreNamed M (binds_mentions inside bs)
        → Binding arities (length names) P (all_bound bs) scope (bindings entries known names p bs scope)
    bindings_bind inside scope p exprs.no_binds covers none shaped narrow named = binds_nothing arities (length names) P scope
    bindings_bind inside scope p (exprs.and_bind bs x e seen) covers none shaped narrow named =
        let front = none_left (binds_faults entries names inside bs ++ pattern_faults x ++ expr_faults entries names (all_bound bs ++ inside) e) (seen_faults (all_bound bs ++ inside) seen) none in
        let head = none_left (binds_faults entries names inside bs ++ pattern_faults x) (expr_faults entries names (all_bound bs ++ inside) e) front in
        let t = bindings_bind inside scope p bs covers (none_left (binds_faults entries names inside bs) (pattern_faults x) head) shaped.0 (omega (arith, narrow))
        (named_left M (binds_mentions inside bs) (expr_mentions (all_bound bs ++ inside) e) named) in
        let inner = inner_covers inside (all_bound bs) scope (bindings entries known names p bs scope) covers t in
        binds_both arities (length names) P (all_bound bs) (bound x) scope (bindings entries known names p bs scope) (λ scope' rest. let_bound p (first_place e) x (term_of entries known names scope' e) seen scope' rest) t
        (let_binds arities (length names) P p (first_place e) x (term_of entries known names t.after e) seen t.after shaped.1
        (term_proper (all_bound bs ++ inside) t.after e inner (none_right (binds_faults entries names inside bs ++ pattern_faults x) (expr_faults entries names (all_bound bs ++ inside) e) front) shaped.2 (omega (arith, narrow))
        (named_right M (binds_mentions inside bs) (expr_mentions (all_bound bs ++ inside) e) named))
        (seen_within (all_bound bs ++ inside) t.after seen inner (none_right (binds_faults entries names inside bs ++ pattern_faults x ++ expr_faults entries names (all_bound bs ++ inside) e) (seen_faults (all_bound bs ++ inside) seen) none)))

    alternatives_proper : (inside : List (List ℕ)) (scope : Scope) (choices : Alts) (subject : Term) → Covers scope inside → match_faults entries names inside choices ≡ [] → AreShapedChoices choices → widest_alts choices ≤ parts_limit
        → AreNamed M (match_mentions inside choices) → Whole (length scope) subject → Whole (length scope) (alternatives entries known names choices subject scope)
    alternatives_proper inside scope exprs.no_alts subject covers none shaped narrow named h = h
    alternatives_proper inside scope (exprs.and_alt choices p head x b) subject covers none shaped narrow named h =
        let front = none_left (match_faults entries names inside choices ++ pattern_faults x) (expr_faults entries names (bound x ++ inside) b) none in
        let g = cases_go inside scope choices subject covers (none_left (match_faults entries names inside choices) (pattern_faults x) front) shaped.0 (omega (arith, narrow))
        (named_left M (match_mentions inside choices) (expr_mentions (bound x ++ inside) b) named) h in
        let t = last_binds arities (length names) P p head x g.subject g.after shaped.1 g.proper_subject in
        g.proper (λ subject' scope'. last_bound p head x subject' scope' (λ scope''. term_of entries known names scope'' b))
        (t.proper (λ scope''. term_of entries known names scope'' b)
        (term_proper (bound x ++ inside) t.after b (inner_covers inside (bound x) g.after (last_bound p head x g.subject g.after) (covers_later scope g.after inside covers g.extends) t)
        (none_right (match_faults entries names inside choices ++ pattern_faults x) (expr_faults entries names (bound x ++ inside) b) none) shaped.2 (omega (arith, narrow))
        (named_right M (match_mentions inside choices) (expr_mentions (bound x ++ inside) b) named)))

    cases_go : (inside : List (List ℕ)) (scope : Scope) (choices : Alts) (subject : Term) → Covers scope inside → match_faults entries names inside choices ≡ [] → AreShapedChoices choices → widest_alts choices ≤ parts_limit
        → AreNamed M (match_mentions inside choices) → Whole (length scope) subject → Goes arities (length names) P scope (cases entries known names choices subject scope)
    cases_go inside scope exprs.no_alts subject covers none shaped narrow named h = record { subject = subject; after = scope; extends = itself scope; proper_subject = h; proper = λ go k. k }
    cases_go inside scope (exprs.and_alt choices p head x b) subject covers none shaped narrow named h =
        let front = none_left (match_faults entries names inside choices ++ pattern_faults x) (expr_faults entries names (bound x ++ inside) b) none in
        let g = cases_go inside scope choices subject covers (none_left (match_faults entries names inside choices) (pattern_faults x) front) shaped.0 (omega (arith, narrow))
        (named_left M (match_mentions inside choices) (expr_mentions (bound x ++ inside) b) named) h in
        let outer = covers_later scope g.after inside covers g.extends in
        let t = payload_binds arities (length names) P x g.after shaped.1 in
        let one = t.proper (λ scope''. term_of entries known names scope'' b)
        (term_proper (bound x ++ inside) t.after b
        (inner_covers inside (bound x) (None ∷ g.after) (payload_bound (its_name x) x g.after) (covers_later g.after (None ∷ g.after) inside outer (with_entry None g.after g.after (itself g.after))) t)
        (none_right (match_faults entries names inside choices ++ pattern_faults x) (expr_faults entries names (bound x ++ inside) b) none) shaped.2 (omega (arith, narrow))
        (named_right M (match_mentions inside choices) (expr_mentions (bound x ++ inside) b) named)) in
        record {
          subject = term p (var (length g.after));
          after = None ∷ g.after;
          extends = with_entry None scope g.after g.extends;
          proper_subject = proper_var arities (length names) P (suc (length g.after)) (length g.after) p (omega arith);
          proper = λ go k. g.proper
              (λ subject' scope'. term p (case_of subject' (record { place = p; name = or_empty head }) (inner_place x) (payload_bound (its_name x) x scope' (λ scope''. term_of entries known names scope'' b)) (go (term p (var (length scope'))) (None ∷ scope'))))
              (proper_case arities (length names) P (length g.after) p (record { place = p; name = or_empty head }) (inner_place x) g.subject _ _ g.proper_subject one k);
        }

  -- the body of a definition, in the context of its argument alone
  pub body_proper : (x : Pattern) (b : Expr) → IsShapedPattern x → expr_faults entries names (bound x) b ≡ [] → IsShapedExpr b → widest_expr b ≤ parts_limit → AreNamed M (expr_mentions (bound x) b)
      → IsProper arities (length names) P 1 (body_term entries known names x b)
  body_proper x b pattern none shaped narrow named =
      let t = payload_binds arities (length names) P x [] pattern in
      t.proper (λ scope. term_of entries known names scope b) (term_proper (bound x) t.after b t.covers none shaped narrow named)
