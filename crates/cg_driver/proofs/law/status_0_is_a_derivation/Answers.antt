use Rattle.cg_driver.proofs.Accepting.{only_certified, all_certified}
use Rattle.cg_driver.proofs.law.status_0_is_a_derivation.Goals as goal

pub returns : goal.returns
returns c = λ table held file certificate. (only_certified table held file certificate, all_certified table held file certificate)
