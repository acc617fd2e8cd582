use Rattle.cg_check_uses.proofs.derivs.three_parts.Goals as goal

pub returns : goal.returns
returns c = c.with_part-2.ensures _ (c.with_part-two.ensures _ (c.with_part.ensures _ c.marked.ensures))
