use Rattle.cg_base.specs.Types.{to_parts}
use Rattle.cg_typing_parts.proofs.library.turn_of_array.Goals as goal

pub returns : goal.returns
unfolding to_parts
returns c = c.unboxed.ensures _ (c.add_carried.ensures _ (c.one-parts.ensures _ c.given.ensures))
