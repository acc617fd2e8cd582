use Rattle.cg_typing_parts.proofs.library.seq_type.Goals as goal

pub returns : goal.returns
returns c = c.looped.ensures _ c.given-end.ensures c.given.ensures
