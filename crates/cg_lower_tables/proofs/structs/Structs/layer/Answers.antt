use Rattle.std.proofs.Common.{◌∙◌}
use Rattle.cg_lower_tables.proofs.Layers.{layer_placed}
use Rattle.cg_lower_tables.proofs.structs.Structs.layer.Goals as goal

pub returns-clause-place : goal.returns-clause-place
returns-clause-place c =
    layer_placed c.enter-at.result c.args.self.now.types c.enter-at.new.self.types c.args.kind c.args.members.now _ _ c.enter-at.ensures.place
    (c.as_slice.ensures.value ∙ c.in_ok-places.ensures) c.in_ok-ty.ensures
