use Rattle.cg_base.specs.Types.{to_parts}
use Rattle.cg_typing_parts.proofs.library.over_loop.Goals as goal

pub returns : goal.returns
unfolding to_parts
returns c = λ t h. c.unboxed.ensures _ (c.add_carried.ensures _ (c.add-parts.ensures _ t c.steps.ensures h))
