use Rattle.std.proofs.Common.{◌++◌, [], subst}
use Rattle.std.proofs.lemmas.Result.{on_ok_weaker}
use Rattle.cg_resolve_names.specs.Scopes.{SameNames}
use Rattle.cg_resolve_names.proofs.GoesOn.{on_both}
use Rattle.cg_resolve_names.proofs.parts.enter_pattern.Goals as goal

pub returns-clause-names : goal.returns-clause-names
returns-clause-names c =
    on_ok_weaker c.enter_bound.result (λ both. subst (λ l. SameNames c.enter_bound.new.scope (l ++ c.args.scope.now)) both.0 both.1)
    (on_both _ _ [] c.in_pattern-bound.result.1 c.enter_bound.result c.enter_bound.ensures.says c.in_pattern-bound.ensures.names c.enter_bound.ensures.names)
