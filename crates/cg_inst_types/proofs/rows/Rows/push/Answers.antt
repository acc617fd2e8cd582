use Rattle.std.proofs.Common.{◌∙◌, sym, subst, ap, ◌++◌, ◌∷◌, []}
use Rattle.std.specs.Map.{keys_of}
use Rattle.cg_inst_types.specs.Places.{IsIn}
use Rattle.cg_inst_types.specs.contracts.rows.NodePartialEq.TheImpl.{ghosts}
use Rattle.cg_inst_types.proofs.NodeEquality.{node_eq_sound}
use Rattle.cg_inst_types.proofs.Searches.{no_position, inserted_last}
use Rattle.cg_inst_types.proofs.rows.Rows.push.Goals as goal

pub returns-clause-ok : goal.returns-clause-ok
returns-clause-ok c =
    let absent = subst (λ rows. IsIn (keys_of rows) c.args.node → ⊥) (sym c.self.view_is) c.requires.absent in
    let missing = no_position (ghosts.eq c.args.node) c.args.node (λ x e. sym (node_eq_sound c.args.node x e)) (keys_of c.self.inside.rows.entries) absent in
    c.in_ok-insert.ensures.entries
    ∙ inserted_last ghosts.eq c.self.inside.rows.entries c.args.node c.args.fact missing
    ∙ ap (λ rows. rows ++ (c.args.node, c.args.fact) ∷ []) c.self.view_is
