use Rattle.std.proofs.Common.{◌∙◌, ◌≡◌, Some, ap, rules}
use Rattle.cg_surface.specs.Exprs.{expr_of}
use Rattle.cg_surface.specs.Patterns.{pattern_of}
use Rattle.cg_resolve_def.specs.Declared.{definition_named}
use Rattle.cg_resolve_def.specs.Mentions.{expr_mentions}
use Rattle.cg_resolve_declared.specs.Declarations.{entries_of}
use Rattle.cg_resolve_mentions.specs.Positions.{pushed}
use Rattle.cg_resolve_mentions.proofs.GraphSteps.{definition_pushed}
use Rattle.cg_resolve_mentions.proofs.graph.push_function.Goals as goal

pub returns : goal.returns
returns c =
    let is : definition_named (entries_of c.args.declared.now) c.args.at.now.name ≡ Some (record { param = pattern_of c.in-Some.definition.param.now; body = expr_of c.in-Some.definition.body.now }) = search rules in
    c.in_ok-targets.ensures.targets
    ∙ ap (λ before. pushed c.args.signatures.now before.items (expr_mentions c.enter_pattern.new.scope (expr_of c.in-Some.definition.body.now))) c.replace-before.ensures.value
    ∙ definition_pushed c.args.signatures.now c.args.targets.now.items (definition_named (entries_of c.args.declared.now) c.args.at.now.name) (pattern_of c.in-Some.definition.param.now) (expr_of c.in-Some.definition.body.now) c.enter_pattern.new.scope is
    (rw c.new-scope.ensures at c.in_ok-enter_pattern.ensures.names)
