use Rattle.std.proofs.Common.{◌≡◌, ◌++◌, map, take, length}
use Rattle.std.specs.Prelude.{OnOk}
use Rattle.cg_surface.specs.Exprs.{expr_of, field_of, bind_of, alt_of, to_exprs, to_fields, to_binds, to_alts}
use Rattle.cg_resolve_def.specs.Faults.{value_names, all_bound, list_faults, record_faults, put_faults, binds_faults, match_faults}
use Rattle.cg_resolve_declared.specs.Declarations.{entries_of}
use Rattle.cg_resolve_names.specs.Says.{GoesOn}
use Rattle.cg_resolve_names.specs.Scopes.{SameNames}
use Rattle.cg_resolve_names.proofs.exprs.+in_expr.Given as goal

abbrev pub invariant-in_exprs-loop-expr : goal.invariant-in_exprs-loop-expr
invariant-in_exprs-loop-expr l =
    GoesOn l.fn.so_far (list_faults (entries_of l.declared) l.vars l.initial.scope (to_exprs (map expr_of (take l.expr-index l.exprs)))) l.inside
    × (l.scope ≡ l.initial.scope)

abbrev pub invariant-in_puts-loop-field : goal.invariant-in_puts-loop-field
invariant-in_puts-loop-field l =
    GoesOn l.fn.so_far (put_faults (entries_of l.declared) l.vars l.initial.scope (to_fields (map field_of (take l.field-index l.fields)))) l.inside
    × (l.scope ≡ l.initial.scope)

abbrev pub invariant-in_record-loop-field : goal.invariant-in_record-loop-field
invariant-in_record-loop-field l =
    GoesOn l.fn.so_far (record_faults (entries_of l.declared) l.vars l.initial.scope (to_fields (map field_of (take l.field-index l.fields)))) l.inside
    × OnOk l.inside (SameNames l.before (value_names (to_fields (map field_of (take l.field-index l.fields)))))
    × (l.scope ≡ l.initial.scope)

abbrev pub invariant-in_choices-loop-choice : goal.invariant-in_choices-loop-choice
invariant-in_choices-loop-choice l =
    GoesOn l.fn.so_far (match_faults (entries_of l.declared) l.vars l.initial.scope (to_alts (map alt_of (take l.choice-index l.choices)))) l.inside
    × (l.scope ≡ l.initial.scope)

abbrev pub invariant-in_binds-loop-bind : goal.invariant-in_binds-loop-bind
invariant-in_binds-loop-bind l =
    GoesOn l.fn.so_far (binds_faults (entries_of l.declared) l.vars l.initial.scope (to_binds (map bind_of (take l.bind-index l.binds)))) l.inside
    × OnOk l.inside (SameNames l.scope (all_bound (to_binds (map bind_of (take l.bind-index l.binds))) ++ l.initial.scope))
    × (take (length l.initial.scope) l.scope ≡ l.initial.scope)
