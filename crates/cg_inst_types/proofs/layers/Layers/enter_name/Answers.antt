use Rattle.std.proofs.Common.{ap, ◌∙◌}
use Rattle.cg_inst_types.proofs.Sound.{sound_named}
use Rattle.cg_inst_types.proofs.Layered.{renamed}
use Rattle.cg_inst_types.proofs.layers.Layers.enter_name.Goals as goal

pub invariant_of-self : goal.invariant_of-self
invariant_of-self c = sound_named c.self.inside.names c.enter.new.self c.self.inside.rows c.enter.ensures.kept (c.enter.ensures.once c.self.invariant.names_once) c.self.invariant

pub returns-clause-types : goal.returns-clause-types
returns-clause-types c = renamed c.self.inside.names c.enter.new.self c.enter.ensures.kept c.self.inside.rows c.self.invariant ∙ ap (λ s. s.types) c.self.view_is
