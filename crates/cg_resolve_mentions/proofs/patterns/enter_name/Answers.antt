use Rattle.cg_resolve_names.proofs.ScopeSteps.{entered}
use Rattle.cg_resolve_mentions.proofs.patterns.enter_name.Goals as goal

pub returns-clause-names : goal.returns-clause-names
returns-clause-names c = entered c.args.scope.now c.enter.new.self c.args.name c.in_ok-enter.field-0 c.in_ok-enter.ensures.new c.in_ok-enter.ensures.names
