use Rattle.cg_typing_parts.proofs.library.with_state.Goals as goal

pub returns : goal.returns
returns c = λ t h. c.pair.ensures _ t c.state.ensures h
