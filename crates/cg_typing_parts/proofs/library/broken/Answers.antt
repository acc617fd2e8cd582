use Rattle.cg_typing_parts.proofs.library.broken.Goals as goal

pub returns : goal.returns
returns c = c.pair.ensures _ _ c.given-2.ensures (c.stopped-end.ensures _ c.given.ensures)
