use Rattle.cg_typing_parts.proofs.library.map_type.Goals as goal

pub returns : goal.returns
returns c = c.arrow.ensures _ _ (c.over_array-from.ensures _ _ c.given_array-array.ensures c.turn_of_map.ensures) (c.pair-to.ensures _ _ c.given_array.ensures c.given.ensures)
