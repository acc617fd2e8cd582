use Rattle.std.proofs.Common.{◌∙◌, ◌++◌, map, rules, subst, sym}
use Rattle.std.specs.Prelude.{OnOk}
use Rattle.cg_surface.specs.Exprs.{expr_of, alt_of, bind_of, to_binds}
use Rattle.cg_surface.proofs.Views.{bind_is}
use Rattle.cg_resolve_def.specs.Faults.{bound}
use Rattle.cg_resolve_def.specs.Mentions.{expr_mentions}
use Rattle.cg_resolve_names.specs.Scopes.{SameNames}
use Rattle.cg_resolve_names.proofs.ExprSteps.{kept_twice}
use Rattle.cg_resolve_mentions.specs.Parts.{choice_mentions}
use Rattle.cg_resolve_mentions.specs.Positions.{GoesOn}
use Rattle.cg_resolve_mentions.proofs.ExprSteps.{expr_turn, value_turn, bind_turn, bind_more, bind_goes, choice_turn, choice_goes, let_goes, expr_steps}
use Rattle.cg_resolve_mentions.proofs.exprs.+push_expr.Goals as goal

pub push_exprs-loop-expr-preserved : goal.push_exprs-loop-expr-preserved
push_exprs-loop-expr-preserved t c = (
  expr_turn c.args.signatures.now c.args.scope.now c.args.targets c.loop-expr.inside c.push_expr-inside.result c.args.exprs.now c.loop-expr.expr-index c.expr-item.result c.loop-expr-test.true c.expr-item.is c.loop-expr.invariant.0
      (subst (λ l. GoesOn c.args.signatures.now c.loop-expr.inside (expr_mentions l (expr_of c.expr-item.result)) c.push_expr-inside.result) c.loop-expr.invariant.1 c.push_expr-inside.ensures.targets),
  c.push_expr-inside.ensures.scope ∙ c.loop-expr.invariant.1,
)

pub push_values-loop-field-preserved : goal.push_values-loop-field-preserved
push_values-loop-field-preserved t c = (
  value_turn c.args.signatures.now c.args.scope.now c.args.targets c.loop-field.inside c.push_expr-inside.result c.args.fields.now c.loop-field.field-index c.field-item.result c.loop-field-test.true c.field-item.is c.loop-field.invariant.0
      (subst (λ l. GoesOn c.args.signatures.now c.loop-field.inside (expr_mentions l (expr_of c.field-item.result.value)) c.push_expr-inside.result) c.loop-field.invariant.1 c.push_expr-inside.ensures.targets),
  c.push_expr-inside.ensures.scope ∙ c.loop-field.invariant.1,
)

pub push_choices-loop-choice-preserved : goal.push_choices-loop-choice-preserved
push_choices-loop-choice-preserved t c = (
  choice_turn c.args.signatures.now c.args.scope.now c.args.targets c.loop-choice.inside c.push_choice-inside.result c.args.choices.now c.loop-choice.choice-index c.choice-item.result c.loop-choice-test.true c.choice-item.is c.loop-choice.invariant.0
      (subst (λ l. GoesOn c.args.signatures.now c.loop-choice.inside (choice_mentions l (alt_of c.choice-item.result)) c.push_choice-inside.result) c.loop-choice.invariant.1 c.push_choice-inside.ensures.targets),
  c.push_choice-inside.ensures.scope ∙ c.loop-choice.invariant.1,
)

pub push_binds-loop-bind-preserved : goal.push_binds-loop-bind-preserved
push_binds-loop-bind-preserved t c = (
  bind_turn c.args.signatures.now c.args.scope.now c.args.targets c.loop-bind.inside c.push_bind-inside.result c.loop-bind.scope c.args.binds.now c.loop-bind.bind-index c.bind-item.result c.loop-bind-test.true c.bind-item.is c.loop-bind.invariant.1
      c.push_bind-inside.ensures.targets c.loop-bind.invariant.0,
  bind_more c.args.signatures.now c.args.scope.now c.args.targets c.loop-bind.inside c.push_bind-inside.result c.loop-bind.scope c.args.binds.now c.loop-bind.bind-index c.bind-item.result c.loop-bind-test.true c.bind-item.is c.loop-bind.invariant.1
      c.push_bind-inside.ensures.targets c.push_bind-inside.new.scope c.push_bind-inside.ensures.names,
  kept_twice c.args.scope.now c.loop-bind.scope c.push_bind-inside.new.scope c.loop-bind.invariant.2 c.push_bind-inside.ensures.kept,
)

pub push_choice-returns-clause-targets : goal.push_choice-returns-clause-targets
push_choice-returns-clause-targets t c =
    choice_goes c.args.signatures.now c.args.scope.now c.args.targets c.push_pattern-inside.result c.push_expr-inside.result c.push_pattern-inside.new.scope c.args.choice.now c.push_pattern-inside.ensures.targets c.push_pattern-inside.ensures.names
    c.push_expr-inside.ensures.targets

pub push_bind-returns-clause-targets : goal.push_bind-returns-clause-targets
push_bind-returns-clause-targets t c =
    bind_goes c.args.signatures.now c.args.scope.now c.args.targets c.push_expr-inside.result c.push_pattern.result c.args.bind.now c.push_expr-inside.ensures.targets c.push_pattern.ensures.targets

pub push_bind-returns-clause-names : goal.push_bind-returns-clause-names
push_bind-returns-clause-names t c =
    subst (λ l. OnOk c.push_pattern.result (SameNames c.push_pattern.new.scope (bound (bind_of c.args.bind.now).pattern ++ l))) c.push_expr-inside.ensures.scope
    (subst (λ b. OnOk c.push_pattern.result (SameNames c.push_pattern.new.scope (bound b.pattern ++ c.push_expr-inside.new.scope))) (sym (bind_is c.args.bind.now)) c.push_pattern.ensures.names)

pub push_expr-returns-in-Let-clause-targets : goal.push_expr-returns-in-Let-clause-targets
push_expr-returns-in-Let-clause-targets t c =
    let goes = let_goes c.args.signatures.now c.args.scope.now c.args.targets c.push_binds-inside.result c.push_expr-inside-in-Let.result c.push_binds-inside.new.scope (to_binds (map bind_of c.as_slice-in-Let.result.now)) (expr_of c.deref-in-Let.result.now)
    c.push_binds-inside.ensures.targets c.push_binds-inside.ensures.names c.push_expr-inside-in-Let.ensures.targets in
    search (rules, goes, expr_steps)
