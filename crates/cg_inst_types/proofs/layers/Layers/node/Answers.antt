use Rattle.std.proofs.Common.{◌≤◌, sym, subst, ap, ◌∙◌, length}
use Rattle.std.proofs.lemmas.Option.{slice_get_past}
use Rattle.cg_inst_types.proofs.Sound.{length_rows, none_then}
use Rattle.cg_inst_types.proofs.layers.Layers.node.Goals as goal

pub returns-clause-absent : goal.returns-clause-absent
returns-clause-absent c =
    none_then c.node.result c.node.ensures.absent
    (λ past. slice_get_past c.args.self.now.types c.args.at
    (subst (λ n. n ≤ c.args.at) (sym (length_rows c.self.inside.names c.self.inside.rows) ∙ ap (λ s. length s.types) c.self.view_is) past))
