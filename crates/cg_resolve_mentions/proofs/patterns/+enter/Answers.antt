use Rattle.std.proofs.Common.{◌≡◌, [], ◌∷◌, ◌++◌, map, rules, subst, sym}
use Rattle.std.proofs.lemmas.Result.{on_ok_weaker}
use Rattle.cg_surface.specs.Patterns.{pattern_of, field_of, to_fields}
use Rattle.cg_resolve_def.specs.Faults.{bound, names_of, field_variables}
use Rattle.cg_resolve_names.specs.Scopes.{SameNames}
use Rattle.cg_resolve_names.proofs.ExprSteps.{kept_twice}
use Rattle.cg_resolve_mentions.proofs.PatternSteps.{pattern_turn, field_turn, same_twice, pattern_steps}
use Rattle.cg_resolve_mentions.proofs.patterns.+enter.Goals as goal

pub enter_patterns-loop-part-preserved : goal.enter_patterns-loop-part-preserved
enter_patterns-loop-part-preserved t c = (
  pattern_turn c.args.scope.now c.loop-part.scope c.enter_pattern.new.scope c.args.parts.now c.loop-part.part-index c.part-item.result c.loop-part-test.true c.part-item.is c.loop-part.invariant.0 c.in_ok-enter_pattern.ensures.names,
  kept_twice c.args.scope.now c.loop-part.scope c.enter_pattern.new.scope c.loop-part.invariant.1 c.enter_pattern.ensures.kept,
)

pub enter_fields-loop-field-preserved : goal.enter_fields-loop-field-preserved
enter_fields-loop-field-preserved t c = (
  field_turn c.args.scope.now c.loop-field.scope c.enter_pattern.new.scope c.args.fields.now c.loop-field.field-index c.field-item.result c.loop-field-test.true c.field-item.is c.loop-field.invariant.0 c.in_ok-enter_pattern.ensures.names,
  kept_twice c.args.scope.now c.loop-field.scope c.enter_pattern.new.scope c.loop-field.invariant.1 c.enter_pattern.ensures.kept,
)

pub enter_pattern-returns-in_ok-enter_name-in-Take-clause-names : goal.enter_pattern-returns-in_ok-enter_name-in-Take-clause-names
enter_pattern-returns-in_ok-enter_name-in-Take-clause-names t c =
    let whole : bound (pattern_of c.args.pat.now) ≡ c.bytes-in-Take.result.now ∷ names_of (field_variables (to_fields (map field_of c.as_slice-in-Take.result.now))) = search (rules, pattern_steps) in
    on_ok_weaker c.enter_fields-in-Take.result
    (λ more. subst (λ l. SameNames c.enter_fields-in-Take.new.scope (l ++ c.args.scope.now)) (sym whole)
    (same_twice (c.bytes-in-Take.result.now ∷ []) (names_of (field_variables (to_fields (map field_of c.as_slice-in-Take.result.now)))) c.args.scope.now c.enter_name-in-Take.new.scope c.enter_fields-in-Take.new.scope
    c.in_ok-enter_name-in-Take.ensures.names more)) c.enter_fields-in-Take.ensures.names

pub enter_patterns-returns-in_err-enter_pattern-clause-kept : goal.enter_patterns-returns-in_err-enter_pattern-clause-kept
enter_patterns-returns-in_err-enter_pattern-clause-kept t c = kept_twice c.args.scope.now c.loop-part.scope c.enter_pattern.new.scope c.loop-part.invariant.1 c.enter_pattern.ensures.kept

pub enter_fields-returns-in_err-enter_pattern-clause-kept : goal.enter_fields-returns-in_err-enter_pattern-clause-kept
enter_fields-returns-in_err-enter_pattern-clause-kept t c = kept_twice c.args.scope.now c.loop-field.scope c.enter_pattern.new.scope c.loop-field.invariant.1 c.enter_pattern.ensures.kept
