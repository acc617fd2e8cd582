use Rattle.std.proofs.Common.{◌∙◌, ap, sym, subst}
use Rattle.std.proofs.lemmas.List.{map-append}
use Rattle.cg_resolve_def.specs.Declared.{is_among}
use Rattle.cg_resolve_declared.specs.Tables.{texts}
use Rattle.cg_resolve_names.specs.Scopes.{IsScope}
use Rattle.cg_resolve_names.proofs.ScopeSteps.{scope_more}
use Rattle.cg_resolve_names.proofs.scope.Scope.enter.Goals as goal

pub invariant_of-self-in-Ok : goal.invariant_of-self-in-Ok
invariant_of-self-in-Ok c =
    subst (λ names. IsScope names c.insert.new.self) (sym (ap texts c.in_ok-push.ensures.items ∙ map-append (λ name. name.now) c.self.inside.entered.items _))
    (scope_more (texts c.self.inside.entered.items) c.args.name c.self.inside.names c.insert.new.self c.self.invariant
    (ap (λ names. is_among names c.args.name.now) c.self.view_is ∙ sym c.holds.ensures ∙ c.if-holds.false) c.in-Ok.ensures.updates)
