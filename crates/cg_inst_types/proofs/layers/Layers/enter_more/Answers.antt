use Rattle.cg_inst_types.specs.Places.{type_at}
use Rattle.cg_inst_types.proofs.Entered.{entered_as}
use Rattle.cg_inst_types.proofs.Listed.{listing_more}
use Rattle.cg_inst_types.proofs.layers.Layers.enter_more.Goals as goal

pub returns-clause-place : goal.returns-clause-place
returns-clause-place c =
    entered_as c.place.result c.place.new.self.types _ _ c.place.ensures.place
    (listing_more c.args.self.now.types c.args.list (type_at c.args.self.now.types c.args.ty) c.requires.list)
