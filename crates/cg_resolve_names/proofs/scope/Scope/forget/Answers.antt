use Rattle.std.proofs.Common.{◌∙◌, ◌++◌, ap, subst}
use Rattle.std.proofs.lemmas.List.{map-append}
use Rattle.std.specs.Option.{option_to_list}
use Rattle.cg_resolve_declared.specs.Tables.{texts}
use Rattle.cg_resolve_names.specs.Scopes.{IsScope}
use Rattle.cg_resolve_names.proofs.ScopeSteps.{scope_less}
use Rattle.cg_resolve_names.proofs.scope.Scope.forget.Goals as goal

pub invariant_of-self : goal.invariant_of-self
invariant_of-self c =
    scope_less (texts c.pop.new.self.items) c.in-Some.name c.self.inside.names c.remove.new.self
    (subst (λ names. IsScope names c.self.inside.names) (ap texts (c.pop.ensures.items ∙ ap (λ r. c.pop.new.self.items ++ option_to_list r) c.in-Some.is) ∙ map-append (λ name. name.now) c.pop.new.self.items _) c.self.invariant) c.remove.ensures.updates
