use Rattle.std.proofs.Common.{◌∙◌, ◌++◌, map, rules, subst, sym}
use Rattle.std.specs.Prelude.{OnOk}
use Rattle.cg_surface.specs.Exprs.{expr_of, field_of, alt_of, bind_of, to_binds}
use Rattle.cg_surface.proofs.Views.{bind_is}
use Rattle.cg_resolve_def.specs.Faults.{expr_faults, bound}
use Rattle.cg_resolve_declared.specs.Declarations.{entries_of}
use Rattle.cg_resolve_names.specs.Parts.{choice_faults, value_faults}
use Rattle.cg_resolve_names.specs.Says.{GoesOn}
use Rattle.cg_resolve_names.specs.Scopes.{SameNames}
use Rattle.cg_resolve_names.proofs.ExprSteps.{expr_turn, put_turn, value_turn, value_more, bind_turn, bind_more, choice_turn, choice_goes, let_goes, bind_named, kept_twice, expr_steps}
use Rattle.cg_resolve_names.proofs.PartSteps.{value_goes}
use Rattle.cg_resolve_names.proofs.exprs.+in_expr.Goals as goal

pub in_exprs-loop-expr-preserved : goal.in_exprs-loop-expr-preserved
in_exprs-loop-expr-preserved t c = (
  expr_turn (entries_of c.args.declared.now) c.args.vars.now c.args.scope.now c.args.so_far c.loop-expr.inside c.in_expr-inside.result c.args.exprs.now c.loop-expr.expr-index c.expr-item.result c.loop-expr-test.true c.expr-item.is c.loop-expr.invariant.0
      (subst (λ l. GoesOn c.loop-expr.inside (expr_faults (entries_of c.args.declared.now) c.args.vars.now l (expr_of c.expr-item.result)) c.in_expr-inside.result) c.loop-expr.invariant.1 c.in_expr-inside.ensures.says),
  c.in_expr-inside.ensures.scope ∙ c.loop-expr.invariant.1,
)

pub in_puts-loop-field-preserved : goal.in_puts-loop-field-preserved
in_puts-loop-field-preserved t c = (
  put_turn (entries_of c.args.declared.now) c.args.vars.now c.args.scope.now c.args.so_far c.loop-field.inside c.in_expr-inside.result c.args.fields.now c.loop-field.field-index c.field-item.result c.loop-field-test.true c.field-item.is c.loop-field.invariant.0
      (subst (λ l. GoesOn c.loop-field.inside (expr_faults (entries_of c.args.declared.now) c.args.vars.now l (expr_of c.field-item.result.value)) c.in_expr-inside.result) c.loop-field.invariant.1 c.in_expr-inside.ensures.says),
  c.in_expr-inside.ensures.scope ∙ c.loop-field.invariant.1,
)

pub in_choices-loop-choice-preserved : goal.in_choices-loop-choice-preserved
in_choices-loop-choice-preserved t c = (
  choice_turn (entries_of c.args.declared.now) c.args.vars.now c.args.scope.now c.args.so_far c.loop-choice.inside c.in_choice-inside.result c.args.choices.now c.loop-choice.choice-index c.choice-item.result c.loop-choice-test.true c.choice-item.is c.loop-choice.invariant.0
      (subst (λ l. GoesOn c.loop-choice.inside (choice_faults (entries_of c.args.declared.now) c.args.vars.now l (alt_of c.choice-item.result)) c.in_choice-inside.result) c.loop-choice.invariant.1 c.in_choice-inside.ensures.says),
  c.in_choice-inside.ensures.scope ∙ c.loop-choice.invariant.1,
)

pub in_record-loop-field-preserved : goal.in_record-loop-field-preserved
in_record-loop-field-preserved t c =
    let goes = subst (λ l. GoesOn c.loop-field.inside (value_faults (entries_of c.args.declared.now) c.args.vars.now l c.loop-field.before (field_of c.field-item.result)) c.in_value-inside.result) c.loop-field.invariant.2 c.in_value-inside.ensures.says in (
      value_turn (entries_of c.args.declared.now) c.args.vars.now c.args.scope.now c.args.so_far c.loop-field.inside c.in_value-inside.result c.args.fields.now c.loop-field.field-index c.field-item.result c.loop-field-test.true c.field-item.is c.loop-field.before c.loop-field.invariant.1 goes c.loop-field.invariant.0,
      value_more (entries_of c.args.declared.now) c.args.vars.now c.args.scope.now c.args.so_far c.loop-field.inside c.in_value-inside.result c.args.fields.now c.loop-field.field-index c.field-item.result c.loop-field-test.true c.field-item.is c.loop-field.before c.loop-field.invariant.1 goes c.in_value-inside.new.before c.in_value-inside.ensures.names,
      c.in_value-inside.ensures.scope ∙ c.loop-field.invariant.2,
    )

pub in_binds-loop-bind-preserved : goal.in_binds-loop-bind-preserved
in_binds-loop-bind-preserved t c = (
  bind_turn (entries_of c.args.declared.now) c.args.vars.now c.args.scope.now c.args.so_far c.loop-bind.inside c.in_bind-inside.result c.args.binds.now c.loop-bind.bind-index c.bind-item.result c.loop-bind-test.true c.bind-item.is c.loop-bind.scope c.loop-bind.invariant.1 c.in_bind-inside.ensures.says c.loop-bind.invariant.0,
  bind_more (entries_of c.args.declared.now) c.args.vars.now c.args.scope.now c.args.so_far c.loop-bind.inside c.in_bind-inside.result c.args.binds.now c.loop-bind.bind-index c.bind-item.result c.loop-bind-test.true c.bind-item.is c.loop-bind.scope c.loop-bind.invariant.1 c.in_bind-inside.ensures.says c.in_bind-inside.new.scope c.in_bind-inside.ensures.names,
  kept_twice c.args.scope.now c.loop-bind.scope c.in_bind-inside.new.scope c.loop-bind.invariant.2 c.in_bind-inside.ensures.kept,
)

pub in_choice-returns-clause-says : goal.in_choice-returns-clause-says
in_choice-returns-clause-says t c =
    choice_goes (entries_of c.args.declared.now) c.args.vars.now c.args.scope.now c.enter_pattern-inside.new.scope c.args.so_far c.enter_pattern-inside.result c.in_expr-inside.result c.args.choice.now c.enter_pattern-inside.ensures.says c.enter_pattern-inside.ensures.names
    c.in_expr-inside.ensures.says

pub in_expr-returns-in-Let-clause-says : goal.in_expr-returns-in-Let-clause-says
in_expr-returns-in-Let-clause-says t c =
    let goes = let_goes (entries_of c.args.declared.now) c.args.vars.now c.args.scope.now c.in_binds-inside.new.scope c.args.so_far c.in_binds-inside.result c.in_expr-inside-in-Let.result (to_binds (map bind_of c.as_slice-in-Let.result.now)) (expr_of c.deref-in-Let.result.now)
    c.in_binds-inside.ensures.says c.in_binds-inside.ensures.names c.in_expr-inside-in-Let.ensures.says in
    search (rules, goes, expr_steps)

pub in_value-returns-clause-says : goal.in_value-returns-clause-says
in_value-returns-clause-says t c = search (rules, value_goes, expr_steps)

pub in_bind-returns-clause-names : goal.in_bind-returns-clause-names
in_bind-returns-clause-names t c =
    subst (λ l. OnOk c.enter_bound.result (SameNames c.enter_bound.new.scope (bound (bind_of c.args.bind.now).pattern ++ l))) c.in_expr-inside.ensures.scope
    (subst (λ b. OnOk c.enter_bound.result (SameNames c.enter_bound.new.scope (bound b.pattern ++ c.in_expr-inside.new.scope))) (sym (bind_is c.args.bind.now))
    (bind_named c.args.so_far c.in_pattern-bound.result.1 c.in_expr-inside.result c.in_seen-inside.result c.enter_bound.result _ _ c.in_expr-inside.new.scope c.enter_bound.new.scope _ _ c.in_expr-inside.ensures.says c.in_seen-inside.ensures c.enter_bound.ensures.says
    c.in_pattern-bound.ensures.names c.enter_bound.ensures.names))
