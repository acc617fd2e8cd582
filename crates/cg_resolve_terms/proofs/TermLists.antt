-- Terms that are made item by item.
use Rattle.std.proofs.Common.{◌≡◌, ℕ, ◌+◌, ◌<◌, ◌≤◌, List, [], ◌∷◌, ◌++◌, map, length, take, drop, get_or, Result, sym, ap, ◌∙◌, subst, arith, append_assoc, length-drop}
use Rattle.std.proofs.lemmas.List.{map-append, take_more, length-map, take-append-drop}
use Rattle.std.specs.Result.{IsErrAnd}
use Rattle.cg_base.specs.declared.place.Place.{Place}
use Rattle.cg_core.specs.declared.term.FieldTerm.{FieldTerm}
use Rattle.cg_core.specs.declared.term.Term as code
use Rattle.cg_core.specs.Kernels.{the_term, the_field}
use Rattle.cg_core.specs.Terms.{term, struct, to_named, OneField}
use Rattle.cg_core.specs.Terms as kernel
use Rattle.cg_core.proofs.Views as views
use Rattle.cg_surface.specs.declared.expr.FExpr.{FExpr, fold_out-FExpr}
use Rattle.cg_surface.specs.declared.expr.SExpr.{SExpr}
use Rattle.cg_surface.specs.Exprs.{expr_of, field_of, to_fields, layer, alt_layer, bind_layer, field_layer, expr_layer}
use Rattle.cg_surface.specs.Exprs as exprs
use Rattle.cg_resolve_def.specs.Desugar.{depth_of, deepest_named, term_limit}
use Rattle.cg_resolve_def.specs.Expand.{bodies, component}
use Rattle.cg_resolve_def.specs.Terms.{Scope, Term}
use Rattle.cg_resolve_sites.specs.declared.fault.TermFault.{TermFault}
use Rattle.cg_resolve_sites.specs.Answers.{Says}
use Rattle.cg_resolve_sites.specs.Sites.{Refuses}
use Rattle.cg_resolve_binders.proofs.BinderSteps.{drop_next}
use Rattle.cg_resolve_nodes.specs.declared.names.Names.{Names}
use Rattle.cg_resolve_nodes.specs.Names.{entries_in, vars_in}
use Rattle.cg_resolve_terms.specs.Terms.{term_in, puts_in, components_in, field_in}
use Rattle.cg_resolve_terms.proofs.ExprLaws.{puts_push, puts_deep}
use Rattle.cg_resolve_terms.proofs.TermLaws.{named_none, named_more, named_deep}
use Rattle.cg_resolve_terms.proofs.TermSteps.{err_says}

-- an item more, of those that are left
pub pushed_on : {X : Type 0} (xs new : List X) (x : X) (ys zs all : List X) → new ≡ xs ++ x ∷ [] → ys ≡ x ∷ zs → xs ++ ys ≡ all → new ++ zs ≡ all
pushed_on xs new x ys zs all is next so_far = ap (λ l. l ++ zs) is ∙ append_assoc xs (x ∷ []) zs ∙ ap (λ l. xs ++ l) (sym next) ∙ so_far

-- ---- fields of a record that is made

the_field_is : (f : FieldTerm Place) → the_field f ≡ record { name = f.name; term = the_term f.term }
the_field_is f = views.field_is Place Place (λ p. p) f

pub fields_start : (made : List (FieldTerm Place)) (above : ℕ) → made ≡ [] → above < term_limit → above + 1 + deepest_named (to_named (map the_field made)) ≤ term_limit
fields_start made above is room = omega (arith, ap (λ l. deepest_named (to_named (map the_field l))) is, named_none)

fields_pushed : (made new : List (FieldTerm Place)) (f : FieldTerm Place) → new ≡ made ++ f ∷ [] → map the_field new ≡ map the_field made ++ record { name = f.name; term = the_term f.term } ∷ []
fields_pushed made new f is = ap (map the_field) is ∙ map-append the_field made (f ∷ []) ∙ ap (λ g. map the_field made ++ g ∷ []) (the_field_is f)

pub fields_room : (made new : List (FieldTerm Place)) (f : FieldTerm Place) (above : ℕ) → new ≡ made ++ f ∷ [] → above + 1 + depth_of (the_term f.term) ≤ term_limit
    → above + 1 + deepest_named (to_named (map the_field made)) ≤ term_limit → above + 1 + deepest_named (to_named (map the_field new)) ≤ term_limit
fields_room made new f above is room so_far =
    omega (arith, room, so_far, ap (λ l. deepest_named (to_named l)) (fields_pushed made new f is), named_more (map the_field made) (record { name = f.name; term = the_term f.term }))

module _ (names : Names) (scope : Scope) where
  -- a value of a field
  field_is : (f : FExpr) → field_in names scope (field_of f) ≡ record { name = f.at.name; term = term_in names scope (expr_of f.value) }
  field_is f = ap (field_in names scope) (fold_out-FExpr _ _ _ _ _ layer alt_layer bind_layer field_layer expr_layer f)

  -- ---- a tuple

  components_next : (items : List SExpr) (i : ℕ) (d : SExpr) → i < length items → d ≡ get_or items i d
      → components_in names scope i (map expr_of (drop i items)) ≡ record { name = component i; term = term_in names scope (expr_of d) } ∷ components_in names scope (i + 1) (map expr_of (drop (i + 1) items))
  components_next items i d within is = ap (λ l. components_in names scope i (map expr_of l)) (drop_next items i d within is)

  module _ (items : List SExpr) (made : List (FieldTerm Place)) (i k : ℕ) (d : SExpr) (within : i < length items) (is : d ≡ get_or items i d) (count : k ≡ i)
      (so_far : map the_field made ++ components_in names scope k (map expr_of (drop i items)) ≡ components_in names scope 0 (map expr_of items)) where
    here : components_in names scope k (map expr_of (drop i items)) ≡ record { name = component k; term = term_in names scope (expr_of d) } ∷ components_in names scope (k + 1) (map expr_of (drop (i + 1) items))
    here = subst (λ n. components_in names scope n (map expr_of (drop i items)) ≡ record { name = component n; term = term_in names scope (expr_of d) } ∷ components_in names scope (n + 1) (map expr_of (drop (i + 1) items))) (sym count)
        (components_next items i d within is)

    pub tuple_more : (new : List (FieldTerm Place)) (f : FieldTerm Place) → new ≡ made ++ f ∷ [] → f.name ≡ component k → the_term f.term ≡ term_in names scope (expr_of d)
        → map the_field new ++ components_in names scope (k + 1) (map expr_of (drop (i + 1) items)) ≡ components_in names scope 0 (map expr_of items)
    tuple_more new f pushed named value =
        pushed_on (map the_field made) (map the_field new) (record { name = component k; term = term_in names scope (expr_of d) }) _ (components_in names scope (k + 1) (map expr_of (drop (i + 1) items))) _
        (fields_pushed made new f pushed ∙ ap (λ (g : OneField Place). map the_field made ++ g ∷ []) (cc (named, value))) here so_far

    pub tuple_err : (p : Place) (above : ℕ) (fault : TermFault) (r : Result (code.Term Place) TermFault) → IsErrAnd r (λ e. e ≡ fault)
        → Refuses fault (term_limit < above + 1 + depth_of (term_in names scope (expr_of d))) → Says above (term p (struct (to_named (components_in names scope 0 (map expr_of items))))) r
    tuple_err p above fault r err refuses =
        err_says above (above + 1 + depth_of (term_in names scope (expr_of d))) (term p (struct (to_named (components_in names scope 0 (map expr_of items))))) fault r err refuses
        (omega (
          arith,
          named_deep (map the_field made) (components_in names scope (k + 1) (map expr_of (drop (i + 1) items))) (record { name = component k; term = term_in names scope (expr_of d) }),
          ap (λ l. deepest_named (to_named l)) (ap (λ l. map the_field made ++ l) (sym here) ∙ so_far),
        ))

  -- ---- a record

  module _ (items : List FExpr) (made : List (FieldTerm Place)) (i : ℕ) (d : FExpr) (within : i < length items) (is : d ≡ get_or items i d)
      (so_far : map the_field made ++ map (field_in names scope) (map field_of (drop i items)) ≡ map (field_in names scope) (map field_of items)) where
    next : map (field_in names scope) (map field_of (drop i items)) ≡ record { name = d.at.name; term = term_in names scope (expr_of d.value) } ∷ map (field_in names scope) (map field_of (drop (i + 1) items))
    next = ap (λ l. map (field_in names scope) (map field_of l)) (drop_next items i d within is) ∙ ap (λ g. g ∷ map (field_in names scope) (map field_of (drop (i + 1) items))) (field_is d)

    pub record_more : (new : List (FieldTerm Place)) (f : FieldTerm Place) → new ≡ made ++ f ∷ [] → f.name ≡ d.at.name → the_term f.term ≡ term_in names scope (expr_of d.value)
        → map the_field new ++ map (field_in names scope) (map field_of (drop (i + 1) items)) ≡ map (field_in names scope) (map field_of items)
    record_more new f pushed named value =
        pushed_on (map the_field made) (map the_field new) (record { name = d.at.name; term = term_in names scope (expr_of d.value) }) _ (map (field_in names scope) (map field_of (drop (i + 1) items))) _
        (fields_pushed made new f pushed ∙ ap (λ (g : OneField Place). map the_field made ++ g ∷ []) (cc (named, value))) next so_far

    pub record_err : (p : Place) (above : ℕ) (fault : TermFault) (r : Result (code.Term Place) TermFault) → IsErrAnd r (λ e. e ≡ fault)
        → Refuses fault (term_limit < above + 1 + depth_of (term_in names scope (expr_of d.value))) → Says above (term p (struct (to_named (map (field_in names scope) (map field_of items))))) r
    record_err p above fault r err refuses =
        err_says above (above + 1 + depth_of (term_in names scope (expr_of d.value))) (term p (struct (to_named (map (field_in names scope) (map field_of items))))) fault r err refuses
        (omega (
          arith,
          named_deep (map the_field made) (map (field_in names scope) (map field_of (drop (i + 1) items))) (record { name = d.at.name; term = term_in names scope (expr_of d.value) }),
          ap (λ l. deepest_named (to_named l)) (ap (λ l. map the_field made ++ l) (sym next) ∙ so_far),
        ))

  -- ---- puts

  module _ (p : Place) (w : Term) (items : List FExpr) (i : ℕ) (d : FExpr) (within : i < length items) (is : d ≡ get_or items i d) where
    put_taken : map field_of (take (i + 1) items) ≡ map field_of (take i items) ++ field_of d ∷ []
    put_taken = ap (map field_of) (take_more items i d within ∙ ap (λ x. take i items ++ x ∷ []) (sym is)) ∙ map-append field_of (take i items) (d ∷ [])

    one_put : puts_in names p scope w (to_fields (map field_of (take (i + 1) items))) ≡ term p (kernel.put (puts_in names p scope w (to_fields (map field_of (take i items)))) d.at (term_in names scope (expr_of d.value)))
    one_put =
        ap (λ l. puts_in names p scope w (to_fields l)) put_taken
        ∙ puts_push (entries_in names) (bodies (entries_in names)) (vars_in names) p scope w (map field_of (take i items)) (field_of d)
        ∙ ap (λ (f : exprs.OneField). term p (kernel.put (puts_in names p scope w (to_fields (map field_of (take i items)))) f.at (term_in names scope f.value))) (fold_out-FExpr _ _ _ _ _ layer alt_layer bind_layer field_layer expr_layer d)

    pub put_more : (made new value : code.Term Place) → the_term made ≡ puts_in names p scope w (to_fields (map field_of (take i items))) → the_term value ≡ term_in names scope (expr_of d.value)
        → the_term new ≡ term p (kernel.put (the_term made) d.at (the_term value)) → the_term new ≡ puts_in names p scope w (to_fields (map field_of (take (i + 1) items)))
    put_more made new value so_far is_value joined =
        joined ∙ ap (λ t. term p (kernel.put t d.at (the_term value))) so_far
        ∙ ap (λ t. term p (kernel.put (puts_in names p scope w (to_fields (map field_of (take i items)))) d.at t)) is_value ∙ sym one_put

    pub put_deep : (above left : ℕ) (fault : TermFault) (r : Result (code.Term Place) TermFault) → left + i ≡ length items → IsErrAnd r (λ e. e ≡ fault)
        → Refuses fault (term_limit < above + left + depth_of (term_in names scope (expr_of d.value))) → Says above (puts_in names p scope w (to_fields (map field_of items))) r
    put_deep above left fault r count err refuses =
        err_says above (above + left + depth_of (term_in names scope (expr_of d.value))) (puts_in names p scope w (to_fields (map field_of items))) fault r err refuses
        (omega (
          arith,
          count,
          within,
          ap depth_of one_put,
          puts_deep (entries_in names) (bodies (entries_in names)) (vars_in names) p scope w (map field_of (take (i + 1) items)) (map field_of (drop (i + 1) items)),
          ap (λ l. depth_of (puts_in names p scope w (to_fields l))) (sym (map-append field_of (take (i + 1) items) (drop (i + 1) items)) ∙ ap (map field_of) (take-append-drop (i + 1) items)),
          length-map (drop (i + 1) items) field_of,
          length-drop (i + 1) items,
        ))
