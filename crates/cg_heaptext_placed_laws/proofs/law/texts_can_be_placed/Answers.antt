use Rattle.cg_heaptext_placed_laws.proofs.Placing.{texts_can_be_placed}
use Rattle.cg_heaptext_placed_laws.proofs.law.texts_can_be_placed.Goals as goal

pub returns : goal.returns
returns c = texts_can_be_placed
