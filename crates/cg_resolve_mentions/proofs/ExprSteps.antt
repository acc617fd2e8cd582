-- Steps over expressions.
use Rattle.std.proofs.Common.{◌≡◌, ℕ, ◌+◌, ◌<◌, List, ◌++◌, map, length, get_or, take, sym, ap, ◌∙◌, refl, append_assoc, subst, Bor}
use Rattle.std.specs.Prelude.{Result, OnOk}
use Rattle.std.proofs.lemmas.Result.{on_ok_weaker}
use Rattle.std.specs.BTreeMap.{BTreeMap}
use Rattle.std.specs.Global.{Vec}
use Rattle.cg_base.specs.declared.memory.Memory.{Memory}
use Rattle.cg_surface.specs.declared.expr.Alt.{Alt}
use Rattle.cg_surface.specs.declared.expr.Bind.{Bind}
use Rattle.cg_surface.specs.declared.expr.FExpr.{FExpr}
use Rattle.cg_surface.specs.declared.expr.SExpr.{SExpr}
use Rattle.cg_surface.specs.declared.expr.SForm.{the_lemmas}
use Rattle.cg_surface.specs.Exprs.{Expr, and_expr, Binds, expr_of, field_of, bind_of, alt_of, to_exprs, to_fields, to_binds, to_alts, exprs_push, fields_push, binds_push, alts_push, binds_none}
use Rattle.cg_surface.specs.Patterns.{pattern_of}
use Rattle.cg_resolve_def.specs.Declared.{is_among}
use Rattle.cg_resolve_def.specs.Faults.{bound, all_bound}
use Rattle.cg_resolve_def.specs.Mentions.{expr_mentions, list_mentions, values_mentions, binds_mentions, match_mentions}
use Rattle.cg_resolve_names.specs.Scopes.{SameNames}
use Rattle.cg_resolve_names.proofs.Same.{more_behind}
use Rattle.cg_resolve_names.proofs.ExprSteps.{one_bind, one_choice, one_value}
use Rattle.cg_surface.proofs.Views.{value_is, bind_is, alternative_is, exprs_none, values_none, choices_none}
use Rattle.cg_resolve_mentions.specs.Parts.{choice_mentions}
use Rattle.cg_resolve_mentions.specs.Positions.{GoesOn, IsAlso}
use Rattle.cg_resolve_mentions.proofs.GoesOn.{goes_none, goes_both, goes_behind, goes_before, goes_same, goes_turn, on_both}
use Rattle.cg_resolve_mentions.proofs.Pushed.{so_far}
use Rattle.cg_resolve_mentions.proofs.Same.{expr_same}

-- the variables of bindings, one more
bind_names : (names scope new : List (List ℕ)) (items : List Bind) (i : ℕ) (x : Bind) → i < length items → x ≡ get_or items i x
    → SameNames scope (all_bound (to_binds (map bind_of (take i items))) ++ names) → SameNames new (bound (bind_of x).pattern ++ scope)
    → SameNames new (all_bound (to_binds (map bind_of (take (i + 1) items))) ++ names)
bind_names names scope new items i x within is same more = λ n.
    more n
    ∙ more_behind (bound (bind_of x).pattern) scope (all_bound (to_binds (map bind_of (take i items))) ++ names) same n
    ∙ ap (λ l. is_among l n)
    (sym (append_assoc (bound (bind_of x).pattern) (all_bound (to_binds (map bind_of (take i items)))) names)
    ∙ ap (λ bs. all_bound bs ++ names)
    (sym (so_far to_binds one_bind binds_push bind_of items i x within is)))

module _ (table : BTreeMap (Bor (List ℕ)) ℕ) (names : List (List ℕ)) (targets inside result : Result (Vec ℕ) Memory) where
  -- bindings, and their body
  pub let_goes : (scope : List (List ℕ)) (bs : Binds) (b : Expr) → GoesOn table targets (binds_mentions names bs) inside → OnOk inside (SameNames scope (all_bound bs ++ names)) → GoesOn table inside (expr_mentions scope b) result
      → GoesOn table targets (binds_mentions names bs ++ expr_mentions (all_bound bs ++ names) b) result
  let_goes scope bs b first same second =
      goes_both table (binds_mentions names bs) (expr_mentions (all_bound bs ++ names) b) targets inside result first
      (goes_same table (expr_mentions scope b) (expr_mentions (all_bound bs ++ names) b) inside result (on_ok_weaker inside (λ are. expr_same scope (all_bound bs ++ names) are b) same) second)

  -- the pattern of an alternative, and its body
  pub choice_goes : (scope : List (List ℕ)) (x : Alt) → IsAlso targets inside → OnOk inside (SameNames scope (bound (pattern_of x.pat) ++ names)) → GoesOn table inside (expr_mentions scope (expr_of x.body)) result
      → GoesOn table targets (choice_mentions names (alt_of x)) result
  choice_goes scope x also same goes =
      subst (λ a. GoesOn table targets (choice_mentions names a) result) (sym (alternative_is x))
      (goes_behind table (expr_mentions (bound (pattern_of x.pat) ++ names) (expr_of x.body)) targets inside result also
      (goes_same table (expr_mentions scope (expr_of x.body)) (expr_mentions (bound (pattern_of x.pat) ++ names) (expr_of x.body)) inside result
      (on_ok_weaker inside (λ are. expr_same scope (bound (pattern_of x.pat) ++ names) are (expr_of x.body)) same) goes))

  -- the value of a binding, and its pattern
  pub bind_goes : (x : Bind) → GoesOn table targets (expr_mentions names (expr_of x.value)) inside → IsAlso inside result → GoesOn table targets (expr_mentions names (bind_of x).value) result
  bind_goes x goes also = subst (λ b. GoesOn table targets (expr_mentions names b.value) result) (sym (bind_is x)) (goes_before table (expr_mentions names (expr_of x.value)) targets inside result goes also)

  -- a turn of the loop over expressions, over the values of fields, and over alternatives
  pub expr_turn : (items : List SExpr) (i : ℕ) (x : SExpr) → i < length items → x ≡ get_or items i x → GoesOn table targets (list_mentions names (to_exprs (map expr_of (take i items)))) inside
      → GoesOn table inside (expr_mentions names (expr_of x)) result → GoesOn table targets (list_mentions names (to_exprs (map expr_of (take (i + 1) items)))) result
  expr_turn items i x within is first second =
      goes_turn to_exprs and_expr exprs_push expr_of items i x within is (list_mentions names) (λ es e. expr_mentions names e) (λ es e. refl) table targets inside result first second

  pub value_turn : (items : List FExpr) (i : ℕ) (x : FExpr) → i < length items → x ≡ get_or items i x → GoesOn table targets (values_mentions names (to_fields (map field_of (take i items)))) inside
      → GoesOn table inside (expr_mentions names (expr_of x.value)) result → GoesOn table targets (values_mentions names (to_fields (map field_of (take (i + 1) items)))) result
  value_turn items i x within is first second =
      goes_turn to_fields one_value fields_push field_of items i x within is (values_mentions names) (λ fs f. expr_mentions names f.value) (λ fs f. refl) table targets inside result first
      (subst (λ f. GoesOn table inside (expr_mentions names f.value) result) (sym (value_is x)) second)

  pub choice_turn : (items : List Alt) (i : ℕ) (x : Alt) → i < length items → x ≡ get_or items i x → GoesOn table targets (match_mentions names (to_alts (map alt_of (take i items)))) inside
      → GoesOn table inside (choice_mentions names (alt_of x)) result → GoesOn table targets (match_mentions names (to_alts (map alt_of (take (i + 1) items)))) result
  choice_turn items i x within is first second =
      goes_turn to_alts one_choice alts_push alt_of items i x within is (match_mentions names) (λ choices a. choice_mentions names a) (λ choices a. refl) table targets inside result first second

  -- a turn of the loop over bindings
  module _ (scope : List (List ℕ)) (items : List Bind) (i : ℕ) (x : Bind) (within : i < length items) (is : x ≡ get_or items i x) (same : OnOk inside (SameNames scope (all_bound (to_binds (map bind_of (take i items))) ++ names)))
      (goes : GoesOn table inside (expr_mentions scope (bind_of x).value) result) where
    pub bind_turn : GoesOn table targets (binds_mentions names (to_binds (map bind_of (take i items)))) inside → GoesOn table targets (binds_mentions names (to_binds (map bind_of (take (i + 1) items)))) result
    bind_turn first =
        goes_turn to_binds one_bind binds_push bind_of items i x within is (binds_mentions names) (λ bs b. expr_mentions (all_bound bs ++ names) b.value) (λ bs b. refl) table targets inside result first
        (goes_same table (expr_mentions scope (bind_of x).value) (expr_mentions (all_bound (to_binds (map bind_of (take i items))) ++ names) (bind_of x).value) inside result
        (on_ok_weaker inside (λ are. expr_same scope (all_bound (to_binds (map bind_of (take i items))) ++ names) are (bind_of x).value) same) goes)

    pub bind_more : (new : List (List ℕ)) → OnOk result (SameNames new (bound (bind_of x).pattern ++ scope)) → OnOk result (SameNames new (all_bound (to_binds (map bind_of (take (i + 1) items))) ++ names))
    bind_more new new_is = on_ok_weaker result (λ both. bind_names names scope new items i x within is both.0 both.1) (on_both table (SameNames scope (all_bound (to_binds (map bind_of (take i items))) ++ names)) (SameNames new (bound (bind_of x).pattern ++ scope)) (expr_mentions scope (bind_of x).value) inside result goes same new_is)

pub ruleset expr_steps = (the_lemmas, exprs_none, values_none, binds_none, choices_none, goes_none, goes_both)
