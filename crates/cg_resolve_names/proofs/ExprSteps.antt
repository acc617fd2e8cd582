-- Steps over expressions.
use Rattle.std.proofs.Common.{◌≡◌, ℕ, ◌+◌, ◌<◌, List, [], ◌∷◌, ◌++◌, map, length, get_or, take, drop, Result, Ok, Err, sym, ap, ◌∙◌, subst, refl, append-nil, append_assoc}
use Rattle.std.specs.Prelude.{⊤, OnOk}
use Rattle.std.proofs.lemmas.Result.{on_ok_weaker}
use Rattle.std.proofs.lemmas.List.{take-append-drop}
use Rattle.cg_resolve_def.specs.Declared.{is_among}
use Rattle.cg_surface.specs.declared.expr.Alt.{Alt}
use Rattle.cg_surface.specs.declared.expr.Bind.{Bind}
use Rattle.cg_surface.specs.declared.expr.FExpr.{FExpr}
use Rattle.cg_surface.specs.declared.expr.SExpr.{SExpr}
use Rattle.cg_surface.specs.declared.expr.SForm.{the_lemmas}
use Rattle.cg_surface.specs.Exprs.{Expr, and_expr, FieldExprs, and_field, OneField, Binds, and_bind, OneBind, Alts, and_alt, OneAlt, expr_of, field_of, bind_of, alt_of, to_exprs, to_fields, to_binds, to_alts, exprs_push, fields_push, binds_push, alts_push, binds_none}
use Rattle.cg_surface.specs.Patterns.{pattern_of}
use Rattle.cg_surface.specs.Programs.{Entry}
use Rattle.cg_resolve_def.specs.Faults.{NameFault, bound, all_bound, pattern_faults, seen_faults, value_names, expr_faults, list_faults, record_faults, put_faults, binds_faults, match_faults}
use Rattle.cg_resolve_names.specs.Parts.{bind_faults, choice_faults, value_faults}
use Rattle.cg_resolve_names.specs.Says.{GoesOn}
use Rattle.cg_resolve_names.specs.Scopes.{SameNames}
use Rattle.cg_resolve_names.specs.declared.fault.NamingFault.{NamingFault}
use Rattle.cg_resolve_names.proofs.GoesOn.{goes_none, goes_both, goes_same, on_both, goes_turn}
use Rattle.cg_resolve_names.proofs.Loops.{so_far as so_far_items}
use Rattle.cg_resolve_names.proofs.Same.{expr_same, seen_same, more_behind}
use Rattle.cg_resolve_names.proofs.PartSteps.{field_same}
use Rattle.cg_resolve_names.proofs.ScopeSteps.{kept_more}
use Rattle.cg_resolve_names.proofs.TypeSteps.{same_more}
use Rattle.cg_surface.proofs.Views.{value_is, bind_is, alternative_is, exprs_none, values_none, choices_none}

abbrev pub one_value : FieldExprs → OneField → FieldExprs
one_value fs f = and_field fs f.at f.value

abbrev pub one_bind : Binds → OneBind → Binds
one_bind bs b = and_bind bs b.pattern b.value b.seen

abbrev pub one_choice : Alts → OneAlt → Alts
one_choice choices a = and_alt choices a.place a.con a.pattern a.body

same_refl : (names : List (List ℕ)) → SameNames names names
same_refl names n = refl

-- bindings, and their body
module _ (entries : List Entry) (vars names scope : List (List ℕ)) (so_far inside result : Result ⊤ NamingFault) where
  pub let_goes : (bs : Binds) (b : Expr) → GoesOn so_far (binds_faults entries vars names bs) inside → OnOk inside (SameNames scope (all_bound bs ++ names)) → GoesOn inside (expr_faults entries vars scope b) result
      → GoesOn so_far (binds_faults entries vars names bs ++ expr_faults entries vars (all_bound bs ++ names) b) result
  let_goes bs b first same second =
      goes_both (binds_faults entries vars names bs) (expr_faults entries vars (all_bound bs ++ names) b) so_far inside result first
      (goes_same inside result (expr_faults entries vars scope b) (expr_faults entries vars (all_bound bs ++ names) b) (on_ok_weaker inside (λ are. expr_same entries vars vars (same_refl vars) scope (all_bound bs ++ names) are b) same) second)

  -- the pattern of an alternative, and its body
  pub choice_goes : (x : Alt) → GoesOn so_far (pattern_faults (pattern_of x.pat)) inside → OnOk inside (SameNames scope (bound (pattern_of x.pat) ++ names)) → GoesOn inside (expr_faults entries vars scope (expr_of x.body)) result
      → GoesOn so_far (choice_faults entries vars names (alt_of x)) result
  choice_goes x first same second =
      subst (λ a. GoesOn so_far (choice_faults entries vars names a) result) (sym (alternative_is x))
      (goes_both (pattern_faults (pattern_of x.pat)) (expr_faults entries vars (bound (pattern_of x.pat) ++ names) (expr_of x.body)) so_far inside result first
      (goes_same inside result (expr_faults entries vars scope (expr_of x.body)) (expr_faults entries vars (bound (pattern_of x.pat) ++ names) (expr_of x.body))
      (on_ok_weaker inside (λ are. expr_same entries vars vars (same_refl vars) scope (bound (pattern_of x.pat) ++ names) are (expr_of x.body)) same) second))

-- the pattern of a binding, its value, and what is observed in it
module _ (so_far first second third result : Result ⊤ NamingFault) where
  pub bind_goes : (entries : List Entry) (vars names : List (List ℕ)) (x : Bind) → GoesOn so_far (pattern_faults (pattern_of x.pat)) first → GoesOn first (expr_faults entries vars names (expr_of x.value)) second
      → GoesOn second (seen_faults names x.seen) third → GoesOn third [] result → GoesOn so_far (bind_faults entries vars names (bind_of x)) result
  bind_goes entries vars names x one two three four =
      subst (λ b. GoesOn so_far (bind_faults entries vars names b) result) (sym (bind_is x))
      (goes_both (pattern_faults (pattern_of x.pat) ++ expr_faults entries vars names (expr_of x.value)) (seen_faults names x.seen) so_far second result
      (goes_both (pattern_faults (pattern_of x.pat)) (expr_faults entries vars names (expr_of x.value)) so_far first second one two)
      (subst (λ l. GoesOn second l result) (append-nil (seen_faults names x.seen)) (goes_both (seen_faults names x.seen) [] second third result three four)))

  pub bind_named : (xs ys : List NameFault) (names new bound named : List (List ℕ)) → GoesOn first xs second → GoesOn second ys third → GoesOn third [] result → OnOk first (bound ≡ named)
      → OnOk result (SameNames new (bound ++ names)) → OnOk result (SameNames new (named ++ names))
  bind_named xs ys names new bound named two three four is same =
      on_ok_weaker result (λ both. subst (λ l. SameNames new (l ++ names)) both.0 both.1)
      (on_both _ _ [] third result four (later _ ys second third three (later _ xs first second two is)) same)
    where
      later : (P : Type 0) (xs : List NameFault) (inside result : Result ⊤ NamingFault) → GoesOn inside xs result → OnOk inside P → OnOk result P
      later P xs inside result goes p = on_ok_weaker result (λ both. both.0) (on_both P ⊤ xs inside result goes p (always result))
        where
          always : (result : Result ⊤ NamingFault) → OnOk result ⊤
          always (Ok done) = tt
          always (Err fault) = tt

module _ (entries : List Entry) (vars names : List (List ℕ)) (so_far inside result : Result ⊤ NamingFault) where
  -- a turn of the loop over expressions
  pub expr_turn : (items : List SExpr) (i : ℕ) (x : SExpr) → i < length items → x ≡ get_or items i x → GoesOn so_far (list_faults entries vars names (to_exprs (map expr_of (take i items)))) inside
      → GoesOn inside (expr_faults entries vars names (expr_of x)) result → GoesOn so_far (list_faults entries vars names (to_exprs (map expr_of (take (i + 1) items)))) result
  expr_turn items i x within is = goes_turn to_exprs and_expr exprs_push (list_faults entries vars names) (λ s t. expr_faults entries vars names t) (λ s t. refl) expr_of items i x within is so_far inside result

  -- a turn of the loop over fields that are put
  pub put_turn : (items : List FExpr) (i : ℕ) (x : FExpr) → i < length items → x ≡ get_or items i x → GoesOn so_far (put_faults entries vars names (to_fields (map field_of (take i items)))) inside
      → GoesOn inside (expr_faults entries vars names (expr_of x.value)) result → GoesOn so_far (put_faults entries vars names (to_fields (map field_of (take (i + 1) items)))) result
  put_turn items i x within is first second =
      goes_turn to_fields one_value fields_push (put_faults entries vars names) (λ s t. expr_faults entries vars names t.value) (λ s t. refl) field_of items i x within is so_far inside result first
      (subst (λ f. GoesOn inside (expr_faults entries vars names f.value) result) (sym (value_is x)) second)

  -- a turn of the loop over alternatives
  pub choice_turn : (items : List Alt) (i : ℕ) (x : Alt) → i < length items → x ≡ get_or items i x → GoesOn so_far (match_faults entries vars names (to_alts (map alt_of (take i items)))) inside
      → GoesOn inside (choice_faults entries vars names (alt_of x)) result → GoesOn so_far (match_faults entries vars names (to_alts (map alt_of (take (i + 1) items)))) result
  choice_turn items i x within is =
      goes_turn to_alts one_choice alts_push (match_faults entries vars names) (λ s t. choice_faults entries vars names t) (λ s t. append_assoc (match_faults entries vars names s) (pattern_faults t.pattern) (expr_faults entries vars (bound t.pattern ++ names) t.body)) alt_of items i x
      within is so_far inside result

  -- a turn of the loop over the fields of a record
  module _ (items : List FExpr) (i : ℕ) (x : FExpr) (within : i < length items) (is : x ≡ get_or items i x) (before : List (List ℕ)) (same : OnOk inside (SameNames before (value_names (to_fields (map field_of (take i items))))))
      (goes : GoesOn inside (value_faults entries vars names before (field_of x)) result) where
    abbrev of_value : FieldExprs → OneField → List NameFault
    of_value fs f = value_faults entries vars names (value_names fs) f

    value_step : (fs : FieldExprs) (f : OneField) → record_faults entries vars names (one_value fs f) ≡ record_faults entries vars names fs ++ of_value fs f
    value_step fs f = refl

    pub value_turn : GoesOn so_far (record_faults entries vars names (to_fields (map field_of (take i items)))) inside → GoesOn so_far (record_faults entries vars names (to_fields (map field_of (take (i + 1) items)))) result
    value_turn first =
        goes_turn to_fields one_value fields_push (record_faults entries vars names) of_value value_step field_of items i x within is so_far inside result first
        (goes_same inside result (value_faults entries vars names before (field_of x)) (of_value (to_fields (map field_of (take i items))) (field_of x))
        (on_ok_weaker inside (λ are. field_same before (value_names (to_fields (map field_of (take i items)))) (field_of x).at (expr_faults entries vars names (field_of x).value) are) same) goes)

    pub value_more : (new : List (List ℕ)) → OnOk result (new ≡ before ++ (field_of x).at.name ∷ []) → OnOk result (SameNames new (value_names (to_fields (map field_of (take (i + 1) items)))))
    value_more new new_is = on_ok_weaker result (λ both. more both.0 both.1) (on_both _ _ (value_faults entries vars names before (field_of x)) inside result goes same new_is)
      where
        more : SameNames before (value_names (to_fields (map field_of (take i items)))) → new ≡ before ++ (field_of x).at.name ∷ [] → SameNames new (value_names (to_fields (map field_of (take (i + 1) items))))
        more are is_new =
            subst (λ l. SameNames l (value_names (to_fields (map field_of (take (i + 1) items))))) (sym is_new)
            (subst (λ fs. SameNames (before ++ (field_of x).at.name ∷ []) (value_names fs))
            (sym (ap to_fields (so_far_items to_fields one_value fields_push (record_faults entries vars names) of_value value_step field_of items i x within is) ∙ fields_push (map field_of (take i items)) (field_of x)))
            (same_more before (value_names (to_fields (map field_of (take i items)))) (field_of x).at.name are))

  -- a turn of the loop over bindings
  module _ (items : List Bind) (i : ℕ) (x : Bind) (within : i < length items) (is : x ≡ get_or items i x) (scope : List (List ℕ)) (same : OnOk inside (SameNames scope (all_bound (to_binds (map bind_of (take i items))) ++ names)))
      (goes : GoesOn inside (bind_faults entries vars scope (bind_of x)) result) where
    abbrev of_bind : Binds → OneBind → List NameFault
    of_bind bs b = bind_faults entries vars (all_bound bs ++ names) b

    bind_step : (bs : Binds) (b : OneBind) → binds_faults entries vars names (one_bind bs b) ≡ binds_faults entries vars names bs ++ of_bind bs b
    bind_step bs b =
        ap (λ l. l ++ seen_faults (all_bound bs ++ names) b.seen) (append_assoc (binds_faults entries vars names bs) (pattern_faults b.pattern) (expr_faults entries vars (all_bound bs ++ names) b.value))
        ∙ append_assoc (binds_faults entries vars names bs) (pattern_faults b.pattern ++ expr_faults entries vars (all_bound bs ++ names) b.value) (seen_faults (all_bound bs ++ names) b.seen)

    bind_same : SameNames scope (all_bound (to_binds (map bind_of (take i items))) ++ names) → bind_faults entries vars scope (bind_of x) ≡ of_bind (to_binds (map bind_of (take i items))) (bind_of x)
    bind_same are =
        ap (λ l. pattern_faults (bind_of x).pattern ++ l ++ seen_faults scope (bind_of x).seen) (expr_same entries vars vars (same_refl vars) scope (all_bound (to_binds (map bind_of (take i items))) ++ names) are (bind_of x).value)
        ∙ ap (λ l. pattern_faults (bind_of x).pattern ++ expr_faults entries vars (all_bound (to_binds (map bind_of (take i items))) ++ names) (bind_of x).value ++ l)
        (seen_same scope (all_bound (to_binds (map bind_of (take i items))) ++ names) are (bind_of x).seen)

    pub bind_turn : GoesOn so_far (binds_faults entries vars names (to_binds (map bind_of (take i items)))) inside → GoesOn so_far (binds_faults entries vars names (to_binds (map bind_of (take (i + 1) items)))) result
    bind_turn first =
        goes_turn to_binds one_bind binds_push (binds_faults entries vars names) of_bind bind_step bind_of items i x within is so_far inside result first
        (goes_same inside result (bind_faults entries vars scope (bind_of x)) (of_bind (to_binds (map bind_of (take i items))) (bind_of x)) (on_ok_weaker inside bind_same same) goes)

    pub bind_more : (new : List (List ℕ)) → OnOk result (SameNames new (bound (bind_of x).pattern ++ scope)) → OnOk result (SameNames new (all_bound (to_binds (map bind_of (take (i + 1) items))) ++ names))
    bind_more new new_is = on_ok_weaker result (λ both. more both.0 both.1) (on_both _ _ (bind_faults entries vars scope (bind_of x)) inside result goes same new_is)
      where
        more : SameNames scope (all_bound (to_binds (map bind_of (take i items))) ++ names) → SameNames new (bound (bind_of x).pattern ++ scope) → SameNames new (all_bound (to_binds (map bind_of (take (i + 1) items))) ++ names)
        more are new_are n =
            new_are n
            ∙ more_behind (bound (bind_of x).pattern) scope (all_bound (to_binds (map bind_of (take i items))) ++ names) are n
            ∙ ap (λ l. is_among l n)
            (sym (append_assoc (bound (bind_of x).pattern) (all_bound (to_binds (map bind_of (take i items)))) names)
            ∙ ap (λ bs. all_bound bs ++ names)
            (sym (ap to_binds (so_far_items to_binds one_bind binds_push (binds_faults entries vars names) of_bind bind_step bind_of items i x within is) ∙ binds_push (map bind_of (take i items)) (bind_of x))))

-- the variables of a scope stay where names come in behind them, twice
pub kept_twice : (names scope new : List (List ℕ)) → take (length names) scope ≡ names → take (length scope) new ≡ scope → take (length names) new ≡ names
kept_twice names scope new first second =
    ap (take (length names)) (sym (take-append-drop (length scope) new) ∙ ap (λ l. l ++ drop (length scope) new) second) ∙ kept_more names scope (drop (length scope) new) first

pub ruleset expr_steps = (the_lemmas, exprs_none, values_none, binds_none, choices_none, goes_none, goes_both)
