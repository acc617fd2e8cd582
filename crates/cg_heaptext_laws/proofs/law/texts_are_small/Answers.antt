use Rattle.cg_heaptext_laws.proofs.SmallTexts.{texts_are_small}
use Rattle.cg_heaptext_laws.proofs.law.texts_are_small.Goals as goal

pub returns : goal.returns
returns c = texts_are_small
