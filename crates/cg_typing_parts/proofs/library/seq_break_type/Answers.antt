use Rattle.cg_typing_parts.proofs.library.seq_break_type.Goals as goal

pub returns : goal.returns
returns c = c.looped.ensures _ c.broken-end.ensures c.broken.ensures
