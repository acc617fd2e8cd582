use Rattle.cg_refine.proofs.Whole.{terms_are_refined}
use Rattle.cg_refine.proofs.law.terms_are_refined.Goals as goal

pub returns : goal.returns
returns c = terms_are_refined
