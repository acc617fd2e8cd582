use Rattle.cg_typing_parts.proofs.library.create_type.Goals as goal

pub returns : goal.returns
returns c = c.arrow.ensures _ _ (c.with_state-from.ensures _ c.of_word.ensures) (c.with_state.ensures _ (c.maybe-made.ensures _ c.given_array.ensures))
