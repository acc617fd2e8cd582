use Rattle.std.proofs.Common.{◌≡◌, ◌+◌, ◌*◌, ◌≤◌, ◌++◌, max, drop, take, length, map}
use Rattle.cg_core.specs.Kernels.{the_term, the_field}
use Rattle.cg_core.specs.Terms.{to_named}
use Rattle.cg_resolve_def.specs.Desugar.{depth_of, deepest_named, term_limit}
use Rattle.cg_surface.specs.declared.expr.SExpr.{size-SExpr}
use Rattle.cg_surface.specs.declared.expr.FExpr.{size-FExpr}
use Rattle.cg_surface.specs.declared.expr.Bind.{size-Bind}
use Rattle.cg_surface.specs.declared.expr.Alt.{size-Alt}
use Rattle.cg_surface.specs.Exprs.{expr_of, field_of, bind_of, alt_of, to_fields}
use Rattle.cg_resolve_sites.specs.Sites.{scope_of, scope_in, Moved}
use Rattle.cg_resolve_terms.specs.Terms.{components_in, field_in, binds_in, puts_in}
use Rattle.cg_resolve_terms.proofs.ChoiceLaws.{Matching}
use denote.Param.Weighed.{most}
use Rattle.cg_resolve_terms.proofs.terms.+term.Given as goal

abbrev pub invariant-tuple_term-loop-item : goal.invariant-tuple_term-loop-item
invariant-tuple_term-loop-item l =
    (map the_field l.fields ++ components_in l.names (scope_of l.scope) l.index (map expr_of (drop l.item-index l.item-items))
    ≡ components_in l.names (scope_of l.scope) 0 (map expr_of l.item-items))
    × (l.index ≡ l.item-index)
    × (l.above + 1 + deepest_named (to_named (map the_field l.fields)) ≤ term_limit)

abbrev pub invariant-record_term-loop-field : goal.invariant-record_term-loop-field
invariant-record_term-loop-field l =
    (map the_field l.made ++ map (field_in l.names (scope_of l.scope)) (map field_of (drop l.field-index l.field-items))
    ≡ map (field_in l.names (scope_of l.scope)) (map field_of l.field-items))
    × (l.above + 1 + deepest_named (to_named (map the_field l.made)) ≤ term_limit)

abbrev pub invariant-put_all-loop-field : goal.invariant-put_all-loop-field
invariant-put_all-loop-field l =
    (the_term l.made ≡ puts_in l.names l.place (scope_of l.scope) (the_term l.initial.made) (to_fields (map field_of (take l.field-index l.field-items))))
    × (l.left + l.field-index ≡ length l.field-items)
    × (l.above + l.left + depth_of (the_term l.made) ≤ term_limit)

abbrev pub invariant-bind_all-loop-bind : goal.invariant-bind_all-loop-bind
invariant-bind_all-loop-bind l =
    Moved l.initial.site (binds_in l.names l.place (map bind_of l.bind-items) (scope_in l.initial.site))
    l.site (binds_in l.names l.place (map bind_of (drop l.bind-index l.bind-items)) (scope_in l.site))

abbrev pub invariant-match_all-loop-choice : goal.invariant-match_all-loop-choice
invariant-match_all-loop-choice l =
    Matching l.names l.initial.site (map alt_of l.choice-items) (the_term l.initial.subject) l.site (map alt_of (drop l.choice-index l.choice-items)) (the_term l.subject)
    × (l.left + l.choice-index ≡ length l.choice-items)

-- ---- what gets less: the depth of what is gone down, and then how many calls are left before the next expression

abbrev pub decreases-form_term : goal.decreases-form_term
decreases-form_term l = 7 * (size-SExpr l.expr.now)

abbrev pub decreases-term : goal.decreases-term
decreases-term l = 7 * (size-SExpr l.expr.now) + 1

abbrev pub decreases-annotation_term : goal.decreases-annotation_term
decreases-annotation_term l = 7 * (size-SExpr l.part.now) + 2

abbrev pub decreases-member_term : goal.decreases-member_term
decreases-member_term l = 7 * (size-SExpr l.whole.now) + 2

abbrev pub decreases-unary_term : goal.decreases-unary_term
decreases-unary_term l = 7 * (size-SExpr l.operand.now) + 2

abbrev pub decreases-cast_term : goal.decreases-cast_term
decreases-cast_term l = 7 * (size-SExpr l.operand.now) + 2

abbrev pub decreases-constructor_term : goal.decreases-constructor_term
decreases-constructor_term l = 7 * (size-SExpr l.value.now) + 2

abbrev pub decreases-below_puts : goal.decreases-below_puts
decreases-below_puts l = 7 * (size-SExpr l.whole.now) + 2

abbrev pub decreases-finish : goal.decreases-finish
decreases-finish l = 7 * (size-SExpr l.body.now) + 2

abbrev pub decreases-value_at : goal.decreases-value_at
decreases-value_at l = 7 * (size-SExpr l.value.now) + 2

abbrev pub decreases-observe : goal.decreases-observe
decreases-observe l = 7 * (size-SExpr l.value.now) + 2

abbrev pub decreases-app_term : goal.decreases-app_term
decreases-app_term l = 7 * (max (size-SExpr l.fun.now) (size-SExpr l.arg.now)) + 2

abbrev pub decreases-binary_term : goal.decreases-binary_term
decreases-binary_term l = 7 * (max (size-SExpr l.left.now) (size-SExpr l.right.now)) + 2

abbrev pub decreases-tuple_term : goal.decreases-tuple_term
decreases-tuple_term l = 7 * (most size-SExpr l.items.now) + 2

abbrev pub decreases-record_term : goal.decreases-record_term
decreases-record_term l = 7 * (most size-FExpr l.fields.now) + 2

abbrev pub decreases-put_all : goal.decreases-put_all
decreases-put_all l = 7 * (most size-FExpr l.fields.now) + 2

abbrev pub decreases-bind_plain : goal.decreases-bind_plain
decreases-bind_plain l = 7 * (size-SExpr l.value.now) + 3

abbrev pub decreases-look_into : goal.decreases-look_into
decreases-look_into l = 7 * (size-SExpr l.value.now) + 3

abbrev pub decreases-payload : goal.decreases-payload
decreases-payload l = 7 * (size-SExpr l.body.now) + 3

abbrev pub decreases-put_term : goal.decreases-put_term
decreases-put_term l = 7 * (max (size-SExpr l.whole.now) (most size-FExpr l.fields.now)) + 3

abbrev pub decreases-bind_observed : goal.decreases-bind_observed
decreases-bind_observed l = 7 * (size-Bind l.bind.now) + 3

abbrev pub decreases-bind_let : goal.decreases-bind_let
decreases-bind_let l = 7 * (size-Bind l.bind.now) + 4

abbrev pub decreases-bind_all : goal.decreases-bind_all
decreases-bind_all l = 7 * (most size-Bind l.binds.now) + 5

abbrev pub decreases-open_case : goal.decreases-open_case
decreases-open_case l = 7 * (size-Alt l.choice.now) + 4

abbrev pub decreases-last_term : goal.decreases-last_term
decreases-last_term l = 7 * (size-Alt l.choice.now) + 4

abbrev pub decreases-match_all : goal.decreases-match_all
decreases-match_all l = 7 * (most size-Alt l.choices.now) + 5

abbrev pub decreases-if_term : goal.decreases-if_term
decreases-if_term l = 7 * (max (size-SExpr l.test.now) (max (size-SExpr l.yes.now) (size-SExpr l.no.now))) + 4

abbrev pub decreases-branches_term : goal.decreases-branches_term
decreases-branches_term l = 7 * (max (size-SExpr l.yes.now) (size-SExpr l.no.now)) + 3

abbrev pub decreases-let_term : goal.decreases-let_term
decreases-let_term l = 7 * (max (most size-Bind l.binds.now) (size-SExpr l.body.now)) + 6

abbrev pub decreases-match_term : goal.decreases-match_term
decreases-match_term l = 7 * (max (size-SExpr l.value.now) (most size-Alt l.choices.now)) + 6
