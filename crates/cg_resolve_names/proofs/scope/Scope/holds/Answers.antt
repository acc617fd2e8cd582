use Rattle.std.proofs.Common.{◌∙◌, ap}
use Rattle.cg_resolve_def.specs.Declared.{is_among}
use Rattle.cg_resolve_declared.specs.Tables.{has}
use Rattle.cg_resolve_names.proofs.scope.Scope.holds.Goals as goal

pub returns : goal.returns
unfolding has
returns c = c.contains.ensures ∙ c.self.invariant.same c.args.name.now ∙ ap (λ names. is_among names c.args.name.now) c.self.view_is
