use Rattle.std.proofs.Common.{ap, ◌∙◌}
use Rattle.cg_inst.specs.Founds.{found_in}
use Rattle.cg_inst.proofs.FoundSteps.{keys_stay}
use Rattle.cg_inst.proofs.found.Found.enter_none.Goals as goal

pub returns-clause-found : goal.returns-clause-found
returns-clause-found c = (keys_stay c.self.inside.table c.enter_none.new.self c.enter_none.ensures.kept c.self.inside.keys c.self.invariant).0 ∙ ap found_in c.self.view_is
