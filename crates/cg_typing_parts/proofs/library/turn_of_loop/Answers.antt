use Rattle.cg_base.specs.Types.{to_parts}
use Rattle.cg_typing_parts.proofs.library.turn_of_loop.Goals as goal

pub returns : goal.returns
unfolding to_parts
returns c = c.unboxed.ensures _ (c.add.ensures _ _ (c.add-parts.ensures _ _ (c.one-parts.ensures _ c.given.ensures) (c.observed.ensures _ c.given-2.ensures)) c.of_word.ensures)
