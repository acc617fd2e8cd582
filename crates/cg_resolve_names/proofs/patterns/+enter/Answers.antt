use Rattle.std.proofs.Common.{rules, map}
use Rattle.cg_resolve_names.proofs.PatternSteps.{pattern_fault, pattern_turn, pattern_names, field_fault, field_turn, fields_names, twins_take, pattern_steps}
use Rattle.cg_surface.specs.Patterns.{field_of, to_fields}
use Rattle.cg_resolve_names.proofs.patterns.+enter.Goals as goal

pub enter_patterns-returns-in_err-enter_pattern-clause-says : goal.enter_patterns-returns-in_err-enter_pattern-clause-says
enter_patterns-returns-in_err-enter_pattern-clause-says t c =
    let first = pattern_fault c.args.scope.now c.args.parts.now c.loop-part.part-index c.part-item.result c.loop-part-test.true c.part-item.is c.loop-part.scope c.loop-part.invariant.1 c.loop-part.invariant.0 c.in_err-enter_pattern.field-0.0 c.in_err-enter_pattern.ensures.says in
    search (rules, first)

pub enter_patterns-loop-part-preserved : goal.enter_patterns-loop-part-preserved
enter_patterns-loop-part-preserved t c = (
  pattern_turn c.args.scope.now c.args.parts.now c.loop-part.part-index c.part-item.result c.loop-part-test.true c.part-item.is c.loop-part.scope c.loop-part.invariant.1 c.loop-part.invariant.0 c.in_ok-enter_pattern.ensures.says,
  pattern_names c.args.scope.now c.args.parts.now c.loop-part.part-index c.part-item.result c.loop-part-test.true c.part-item.is c.loop-part.scope c.loop-part.invariant.1 c.loop-part.invariant.0 c.enter_pattern.new.scope
      c.in_ok-enter_pattern.ensures.names,
)

pub enter_fields-returns-in_err-enter_pattern-clause-says : goal.enter_fields-returns-in_err-enter_pattern-clause-says
enter_fields-returns-in_err-enter_pattern-clause-says t c =
    let first = field_fault c.args.scope.now c.args.fields.now c.loop-field.field-index c.field-item.result c.loop-field-test.true c.field-item.is c.loop-field.scope c.loop-field.invariant.1 c.loop-field.invariant.0 c.in_err-enter_pattern.field-0.0 c.in_err-enter_pattern.ensures.says in
    search (rules, first)

pub enter_fields-loop-field-preserved : goal.enter_fields-loop-field-preserved
enter_fields-loop-field-preserved t c = (
  field_turn c.args.scope.now c.args.fields.now c.loop-field.field-index c.field-item.result c.loop-field-test.true c.field-item.is c.loop-field.scope c.loop-field.invariant.1 c.loop-field.invariant.0 c.in_ok-enter_pattern.ensures.says,
  fields_names c.args.scope.now c.args.fields.now c.loop-field.field-index c.field-item.result c.loop-field-test.true c.field-item.is c.loop-field.scope c.loop-field.invariant.1 c.loop-field.invariant.0 c.enter_pattern.new.scope
      c.in_ok-enter_pattern.ensures.names,
)

pub enter_pattern-returns-in_ok-enter_new-in-Take-clause-says : goal.enter_pattern-returns-in_ok-enter_new-in-Take-clause-says
enter_pattern-returns-in_ok-enter_new-in-Take-clause-says t c =
    let whole = twins_take c.args.scope.now c.enter_new-in-Take.new.scope c.args.pat.now.place c.in-Take.name (to_fields (map field_of c.in-Take.fields)) c.enter_fields-in-Take.result in
    search (rules, whole, pattern_steps)
