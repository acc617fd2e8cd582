use Rattle.cg_lower_laws.proofs.Looping.{iterators_run}
use Rattle.cg_lower_laws.proofs.law.iterators_run.Goals as goal

pub returns : goal.returns
returns c = iterators_run
