use Rattle.std.proofs.Common.{◌≤◌, ◌+◌, max, map, take}
use Rattle.cg_surface.specs.declared.expr.SExpr.{size-SExpr}
use Rattle.cg_surface.specs.declared.expr.FExpr.{size-FExpr}
use Rattle.cg_surface.specs.declared.expr.Bind.{size-Bind}
use Rattle.cg_surface.specs.declared.expr.Alt.{size-Alt}
use denote.Param.Weighed.{most}
use Rattle.cg_surface.specs.Exprs.{expr_of, field_of, bind_of, alt_of, to_exprs, to_fields, to_binds, to_alts}
use Rattle.cg_resolve_def.specs.Desugar.{type_limit}
use Rattle.cg_resolve_expand.specs.Known.{known_of}
use Rattle.cg_resolve_written.specs.Measures.{greatest_list, greatest_values, greatest_binds, greatest_alts}
use Rattle.cg_resolve_written.proofs.measure.+measure.Given as goal

abbrev pub invariant-measure_list-loop-expr : goal.invariant-measure_list-loop-expr
invariant-measure_list-loop-expr l = greatest_list (known_of l.synonyms) (to_exprs (map expr_of (take l.expr-index l.expr-items))) ≤ type_limit

abbrev pub invariant-measure_values-loop-field : goal.invariant-measure_values-loop-field
invariant-measure_values-loop-field l = greatest_values (known_of l.synonyms) (to_fields (map field_of (take l.field-index l.field-items))) ≤ type_limit

abbrev pub invariant-measure_binds-loop-bind : goal.invariant-measure_binds-loop-bind
invariant-measure_binds-loop-bind l = greatest_binds (known_of l.synonyms) (to_binds (map bind_of (take l.bind-index l.bind-items))) ≤ type_limit

abbrev pub invariant-measure_choices-loop-choice : goal.invariant-measure_choices-loop-choice
invariant-measure_choices-loop-choice l = greatest_alts (known_of l.synonyms) (to_alts (map alt_of (take l.choice-index l.choice-items))) ≤ type_limit

abbrev pub decreases-measure_expr : goal.decreases-measure_expr
decreases-measure_expr l = size-SExpr l.expr.now

abbrev pub decreases-measure_signed : goal.decreases-measure_signed
decreases-measure_signed l = size-SExpr l.expr.now + 1

abbrev pub decreases-measure_both : goal.decreases-measure_both
decreases-measure_both l = max (size-SExpr l.first.now) (size-SExpr l.second.now) + 1

abbrev pub decreases-measure_put : goal.decreases-measure_put
decreases-measure_put l = max (size-SExpr l.expr.now) (most size-FExpr l.fields.now) + 1

abbrev pub decreases-measure_let : goal.decreases-measure_let
decreases-measure_let l = max (most size-Bind l.binds.now) (size-SExpr l.body.now) + 1

abbrev pub decreases-measure_if : goal.decreases-measure_if
decreases-measure_if l = max (size-SExpr l.condition.now) (max (size-SExpr l.yes.now) (size-SExpr l.no.now)) + 1

abbrev pub decreases-measure_match : goal.decreases-measure_match
decreases-measure_match l = max (size-SExpr l.expr.now) (most size-Alt l.choices.now) + 1

abbrev pub decreases-measure_list : goal.decreases-measure_list
decreases-measure_list l = most size-SExpr l.exprs.now + 1

abbrev pub decreases-measure_values : goal.decreases-measure_values
decreases-measure_values l = most size-FExpr l.fields.now

abbrev pub decreases-measure_binds : goal.decreases-measure_binds
decreases-measure_binds l = most size-Bind l.binds.now

abbrev pub decreases-measure_choices : goal.decreases-measure_choices
decreases-measure_choices l = most size-Alt l.choices.now
