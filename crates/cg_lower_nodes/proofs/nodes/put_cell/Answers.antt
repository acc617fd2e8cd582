use Rattle.std.proofs.Common.{[], ◌∷◌, ap, ◌∙◌}
use Rattle.cg_base.specs.Types.{type_of}
use Rattle.cg_cgen_def.specs.Places as places
use Rattle.cg_lower_nodes.specs.Kept.{c_type_in}
use Rattle.cg_lower_nodes.specs.Views.{place_of}
use Rattle.cg_lower_nodes.proofs.NodeSteps.{puts_cell}
use Rattle.cg_lower_nodes.proofs.nodes.put_cell.Goals as goal

pub returns : goal.returns
returns c =
    puts_cell c.args.state.now c.bare.new.state c.store.new.self c.args.from (c_type_in c.args.state.now (type_of c.args.ty.now)) c.args.at (place_of c.args.value.now) c.args.whole c.in_ok-place.place c.in_ok-to.to
    c.in_ok-place.ensures (c.in_ok-to.ensures ∙ ap (λ z. places.arrow_path z (places.field c.args.at ∷ [])) c.base.ensures) c.in_ok-store.ensures
