use Rattle.cg_typing_parts.proofs.library.steps.Goals as goal

pub returns : goal.returns
returns c = c.add.ensures _ _ (c.add-parts.ensures _ _ (c.one.ensures _ c.of_word.ensures) c.of_word-2.ensures) c.of_word-3.ensures
