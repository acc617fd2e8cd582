use Rattle.cg_typing_parts.proofs.library.range_of.Goals as goal

pub returns : goal.returns
returns c = λ t h. c.add.ensures _ _ (c.add-parts.ensures _ _ (c.one.ensures t h) c.of_word.ensures) c.of_word-2.ensures
