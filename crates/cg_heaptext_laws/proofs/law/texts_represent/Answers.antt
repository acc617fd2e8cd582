use Rattle.cg_heaptext_laws.proofs.Representing.{texts_represent}
use Rattle.cg_heaptext_laws.proofs.law.texts_represent.Goals as goal

pub returns : goal.returns
returns c = texts_represent
