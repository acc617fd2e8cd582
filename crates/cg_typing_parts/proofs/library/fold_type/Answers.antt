use Rattle.cg_typing_parts.proofs.library.fold_type.Goals as goal

pub returns : goal.returns
returns c = c.arrow.ensures _ _ (c.over_array-from.ensures _ _ (c.observed-array.ensures _ c.given_array.ensures) (c.arrow-turn.ensures _ _ c.turn_of_array.ensures c.given.ensures)) c.given-2.ensures
