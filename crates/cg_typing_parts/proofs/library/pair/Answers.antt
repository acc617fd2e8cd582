use Rattle.cg_base.specs.Types.{to_parts}
use Rattle.cg_typing_parts.proofs.library.pair.Goals as goal

pub returns : goal.returns
unfolding to_parts
returns c = λ s t ha hb. c.unboxed.ensures _ (c.add.ensures _ t (c.one.ensures s ha) hb)
