use Rattle.cg_faults_laws.proofs.Uses.{uses_agree}
use Rattle.cg_faults_laws.proofs.law.uses_agree.Goals as goal

pub returns : goal.returns
returns c = uses_agree
