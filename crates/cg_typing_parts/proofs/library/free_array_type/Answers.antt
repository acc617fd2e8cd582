use Rattle.cg_typing_parts.proofs.library.free_array_type.Goals as goal

pub returns : goal.returns
returns c = c.arrow.ensures _ _ (c.with_state-from.ensures _ c.given_array.ensures) c.state.ensures
