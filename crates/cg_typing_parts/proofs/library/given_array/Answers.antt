use Rattle.cg_typing_parts.proofs.library.given_array.Goals as goal

pub returns : goal.returns
returns c = c.array.ensures _ c.given.ensures
