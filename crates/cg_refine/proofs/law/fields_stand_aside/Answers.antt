use Rattle.cg_refine.proofs.Parting.{fields_stand_aside}
use Rattle.cg_refine.proofs.law.fields_stand_aside.Goals as goal

pub returns : goal.returns
returns c = fields_stand_aside
