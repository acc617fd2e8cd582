use Rattle.std.proofs.Common.{◌≡◌, ◌++◌, map, length, take}
use Rattle.std.specs.Prelude.{OnOk}
use Rattle.cg_surface.specs.Exprs.{expr_of, field_of, bind_of, alt_of, to_exprs, to_fields, to_binds, to_alts}
use Rattle.cg_resolve_def.specs.Faults.{all_bound}
use Rattle.cg_resolve_def.specs.Mentions.{list_mentions, values_mentions, binds_mentions, match_mentions}
use Rattle.cg_resolve_names.specs.Scopes.{SameNames}
use Rattle.cg_resolve_mentions.specs.Positions.{GoesOn}
use Rattle.cg_resolve_mentions.proofs.exprs.+push_expr.Given as goal

abbrev pub invariant-push_exprs-loop-expr : goal.invariant-push_exprs-loop-expr
invariant-push_exprs-loop-expr l = GoesOn l.signatures l.fn.targets (list_mentions l.initial.scope (to_exprs (map expr_of (take l.expr-index l.exprs)))) l.inside × (l.scope ≡ l.initial.scope)

abbrev pub invariant-push_values-loop-field : goal.invariant-push_values-loop-field
invariant-push_values-loop-field l = GoesOn l.signatures l.fn.targets (values_mentions l.initial.scope (to_fields (map field_of (take l.field-index l.fields)))) l.inside × (l.scope ≡ l.initial.scope)

abbrev pub invariant-push_choices-loop-choice : goal.invariant-push_choices-loop-choice
invariant-push_choices-loop-choice l = GoesOn l.signatures l.fn.targets (match_mentions l.initial.scope (to_alts (map alt_of (take l.choice-index l.choices)))) l.inside × (l.scope ≡ l.initial.scope)

abbrev pub invariant-push_binds-loop-bind : goal.invariant-push_binds-loop-bind
invariant-push_binds-loop-bind l =
    GoesOn l.signatures l.fn.targets (binds_mentions l.initial.scope (to_binds (map bind_of (take l.bind-index l.binds)))) l.inside
    × OnOk l.inside (SameNames l.scope (all_bound (to_binds (map bind_of (take l.bind-index l.binds))) ++ l.initial.scope))
    × (take (length l.initial.scope) l.scope ≡ l.initial.scope)
