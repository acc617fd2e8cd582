use Rattle.cg_typing_parts.proofs.library.looped.Goals as goal

pub returns : goal.returns
returns c = λ t h k. c.arrow.ensures _ t (c.over_loop.ensures _ (c.arrow-turn.ensures _ t c.turn_of_loop.ensures h)) k
