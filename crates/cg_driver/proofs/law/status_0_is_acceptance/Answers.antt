use Rattle.cg_driver.proofs.Accepting.{only_accepted, all_accepted}
use Rattle.cg_driver.proofs.law.status_0_is_acceptance.Goals as goal

pub returns : goal.returns
returns c = λ table held file. (only_accepted table held file, all_accepted table held file)
