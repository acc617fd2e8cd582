use Rattle.cg_typing_parts.proofs.library.new_type.Goals as goal

pub returns : goal.returns
returns c = c.arrow.ensures _ _ c.state.ensures (c.with_state.ensures _ (c.maybe-made.ensures _ c.given_taken.ensures))
