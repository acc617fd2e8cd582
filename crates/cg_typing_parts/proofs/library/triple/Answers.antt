use Rattle.cg_base.specs.Types.{to_parts}
use Rattle.cg_typing_parts.proofs.library.triple.Goals as goal

pub returns : goal.returns
unfolding to_parts
returns c = λ s t u ha hb hc. c.unboxed.ensures _ (c.add-2.ensures _ u (c.add.ensures _ t (c.one.ensures s ha) hb) hc)
