use Rattle.std.proofs.Common.{subst}
use Rattle.std.specs.Map.{keys_of}
use Rattle.cg_inst_types.specs.Places.{Locates}
use Rattle.cg_inst_types.specs.contracts.rows.NodePartialEq.TheImpl.{ghosts}
use Rattle.cg_inst_types.proofs.NodeEquality.{node_eq_sound, node_eq_complete}
use Rattle.cg_inst_types.proofs.Searches.{node_located}
use Rattle.cg_inst_types.proofs.rows.Rows.find.Goals as goal

pub returns : goal.returns
returns c =
    subst (λ rows. Locates (keys_of rows) c.args.node c.get_index_of.result) c.self.view_is
    (node_located ghosts.eq node_eq_sound node_eq_complete c.args.node (keys_of c.self.inside.rows.entries) c.get_index_of.result c.get_index_of.ensures.index)
