use Rattle.cg_check_laws.proofs.Linear.{linear}
use Rattle.cg_check_laws.proofs.law.linear_variables_are_used_once.Goals as goal

pub returns : goal.returns
returns c = linear
