use Rattle.cg_typing_parts.proofs.library.turn_of_map.Goals as goal

pub returns : goal.returns
returns c = c.arrow.ensures _ _ c.turn_of_array.ensures (c.pair-to.ensures _ _ c.given.ensures c.given-2.ensures)
