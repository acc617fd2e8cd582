use Rattle.std.proofs.Common.{ap, ◌∙◌, ◌∷◌, ◌++◌, []}
use Rattle.std.specs.Prelude.{if◌then◌else◌}
use Rattle.cg_inst.specs.Lookups.{with_key}
use Rattle.cg_inst.proofs.KeySteps.{any_is_same}
use Rattle.cg_inst.proofs.keys.Keys.enter.Goals as goal

pub returns-clause-ok : goal.returns-clause-ok
returns-clause-ok c =
    c.in_ok-insert.ensures.keys
    ∙ ap (λ b. if b then c.self.inside.keys.keys else c.self.inside.keys.keys ++ c.args.key ∷ []) (any_is_same c.args.key c.self.inside.keys.keys)
    ∙ ap (λ keys. with_key keys c.args.key) c.self.view_is
