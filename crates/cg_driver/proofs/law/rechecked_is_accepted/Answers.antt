use Rattle.cg_driver.proofs.Built.{rechecked_accepted}
use Rattle.cg_driver.proofs.law.rechecked_is_accepted.Goals as goal

pub returns : goal.returns
returns c = rechecked_accepted
