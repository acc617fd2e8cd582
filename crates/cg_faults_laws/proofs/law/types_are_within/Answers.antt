use Rattle.cg_faults_laws.proofs.Occurring.{types_are_within}
use Rattle.cg_faults_laws.proofs.law.types_are_within.Goals as goal

pub returns : goal.returns
returns c = types_are_within
