use Rattle.std.proofs.Common.{ap, ◌∙◌}
use Rattle.cg_base.specs.declared.kind.Sigil.TheVariants.{U}
use Rattle.cg_base.specs.Types.{abs, none}
use Rattle.cg_inst_types.proofs.Entered.{entered_as}
use Rattle.cg_inst_types.proofs.Listed.{listing_none}
use Rattle.cg_inst_types.proofs.layers.Layers.enter_none.Goals as goal

pub returns-clause-place : goal.returns-clause-place
returns-clause-place c =
    entered_as c.place_abstract.result c.place_abstract.new.self.types _ _ c.place_abstract.ensures.place
    (ap (λ name. abs name none U) c.in_ok-name.ensures ∙ listing_none)
