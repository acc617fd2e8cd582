use Rattle.cg_faults_laws.proofs.Bound.{bound_variables_stand_below}
use Rattle.cg_faults_laws.proofs.law.bound_variables_stand_below.Goals as goal

pub returns : goal.returns
returns c = bound_variables_stand_below
