use Rattle.std.proofs.Common.{take}
use Rattle.std.specs.List.{flat_map}
use Rattle.cg_surface.specs.Exprs.{expr_of, field_of, bind_of, alt_of}
use Rattle.cg_resolve_takes.specs.Missing.{absent_in}
use Rattle.cg_resolve_takes.specs.Says.{GoesOn}
use Rattle.cg_resolve_takes.specs.Views.{heads_in}
use Rattle.cg_resolve_takes.proofs.exprs.+check.Given as goal

abbrev pub invariant-in_exprs-loop-expr : goal.invariant-in_exprs-loop-expr
invariant-in_exprs-loop-expr l = GoesOn l.fn.so_far (flat_map (λ e. absent_in (heads_in l.table) (expr_of e)) (take l.expr-index l.expr-items)) l.inside

abbrev pub invariant-in_fields-loop-field : goal.invariant-in_fields-loop-field
invariant-in_fields-loop-field l = GoesOn l.fn.so_far (flat_map (λ e. absent_in (heads_in l.table) (field_of e).value) (take l.field-index l.field-items)) l.inside

abbrev pub invariant-in_binds-loop-bind : goal.invariant-in_binds-loop-bind
invariant-in_binds-loop-bind l = GoesOn l.fn.so_far (flat_map (λ e. absent_in (heads_in l.table) (bind_of e).value) (take l.bind-index l.bind-items)) l.inside

abbrev pub invariant-in_alternatives-loop-alternative : goal.invariant-in_alternatives-loop-alternative
invariant-in_alternatives-loop-alternative l = GoesOn l.fn.so_far (flat_map (λ e. absent_in (heads_in l.table) (alt_of e).body) (take l.alternative-index l.alternative-items)) l.inside
