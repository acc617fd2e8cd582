use Rattle.cg_refine.proofs.Parting.{sides_divide}
use Rattle.cg_refine.proofs.law.sides_divide.Goals as goal

pub returns : goal.returns
returns c = sides_divide
