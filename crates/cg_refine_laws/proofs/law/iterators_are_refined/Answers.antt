use Rattle.cg_refine_laws.proofs.Iterators.{iterators_are_refined}
use Rattle.cg_refine_laws.proofs.law.iterators_are_refined.Goals as goal

pub returns : goal.returns
returns c = iterators_are_refined
