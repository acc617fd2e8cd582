use Rattle.cg_typing_parts.proofs.library.put_type.Goals as goal

pub returns : goal.returns
returns c = c.arrow.ensures _ _ (c.triple-from.ensures _ _ _ c.given_array-array.ensures c.of_word.ensures c.given.ensures) c.given_array.ensures
