use Rattle.cg_typing_parts.proofs.library.get_type.Goals as goal

pub returns : goal.returns
returns c = c.arrow.ensures _ _ (c.pair-from.ensures _ _ (c.observed-array.ensures _ c.given_array.ensures) c.of_word.ensures) c.given.ensures
