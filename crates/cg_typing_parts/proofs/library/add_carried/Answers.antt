use Rattle.cg_typing_parts.proofs.library.add_carried.Goals as goal

pub returns : goal.returns
returns c = λ ps h. c.add.ensures _ _ (c.add-parts.ensures ps _ h c.given.ensures) (c.observed.ensures _ c.given-2.ensures)
