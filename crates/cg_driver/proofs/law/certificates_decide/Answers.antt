use Rattle.cg_driver.proofs.Certifying.{certificates_decide}
use Rattle.cg_driver.proofs.law.certificates_decide.Goals as goal

pub returns : goal.returns
returns c = certificates_decide
