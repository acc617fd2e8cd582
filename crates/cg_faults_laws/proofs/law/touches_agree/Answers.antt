use Rattle.cg_faults_laws.proofs.Touches.{touches_agree}
use Rattle.cg_faults_laws.proofs.law.touches_agree.Goals as goal

pub returns : goal.returns
returns c = touches_agree
