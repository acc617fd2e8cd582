use Rattle.std.proofs.Common.{◌≡◌, map, take}
use Rattle.cg_surface.specs.Exprs.{expr_of, field_of, bind_of, alt_of, to_exprs, to_fields, to_binds, to_alts}
use Rattle.cg_resolve_def.specs.Takes.{widest_list, widest_values, widest_binds, widest_alts}
use Rattle.cg_resolve_written.proofs.wide_exprs.+widest.Given as goal

abbrev pub invariant-widest_list-loop-expr : goal.invariant-widest_list-loop-expr
invariant-widest_list-loop-expr l = l.most ≡ widest_list (to_exprs (map expr_of (take l.expr-index l.expr-items)))

abbrev pub invariant-widest_values-loop-field : goal.invariant-widest_values-loop-field
invariant-widest_values-loop-field l = l.most ≡ widest_values (to_fields (map field_of (take l.field-index l.field-items)))

abbrev pub invariant-widest_binds-loop-bind : goal.invariant-widest_binds-loop-bind
invariant-widest_binds-loop-bind l = l.most ≡ widest_binds (to_binds (map bind_of (take l.bind-index l.bind-items)))

abbrev pub invariant-widest_choices-loop-choice : goal.invariant-widest_choices-loop-choice
invariant-widest_choices-loop-choice l = l.most ≡ widest_alts (to_alts (map alt_of (take l.choice-index l.choice-items)))
