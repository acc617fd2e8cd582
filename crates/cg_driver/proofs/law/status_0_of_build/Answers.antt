use Rattle.cg_driver.proofs.Built.{only_built, all_built}
use Rattle.cg_driver.proofs.law.status_0_of_build.Goals as goal

pub returns : goal.returns
returns c = λ table held file text certificate. (only_built table held file text certificate, all_built table held file text certificate)
