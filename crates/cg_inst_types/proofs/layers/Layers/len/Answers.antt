use Rattle.std.proofs.Common.{◌<◌, sym, subst, ap, ◌∙◌, length}
use Rattle.cg_inst_types.proofs.Sound.{length_rows}
use Rattle.cg_inst_types.proofs.layers.Layers.len.Goals as goal

pub returns-clause-len : goal.returns-clause-len
returns-clause-len c = c.len.ensures ∙ sym (length_rows c.self.inside.names c.self.inside.rows) ∙ ap (λ s. length s.types) c.self.view_is

pub returns-clause-small : goal.returns-clause-small
returns-clause-small c = subst (λ n. n < 4294967296) (sym (length_rows c.self.inside.names c.self.inside.rows) ∙ ap (λ s. length s.types) c.self.view_is) c.self.invariant.small
