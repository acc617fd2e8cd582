use Rattle.cg_typing_parts.proofs.library.length_type.Goals as goal

pub returns : goal.returns
returns c = c.arrow.ensures _ _ (c.observed-from.ensures _ c.given_array.ensures) c.of_word.ensures
