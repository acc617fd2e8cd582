use Rattle.cg_base.specs.Types.{to_parts}
use Rattle.cg_typing_parts.proofs.library.over_array.Goals as goal

pub returns : goal.returns
unfolding to_parts
returns c = λ s t hs ht. c.unboxed.ensures _ (c.add_carried.ensures _ (c.add-parts.ensures _ t (c.range_of.ensures s hs) ht))
