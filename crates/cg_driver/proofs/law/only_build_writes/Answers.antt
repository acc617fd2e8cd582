use Rattle.cg_driver.proofs.Accepting.{own_writes}
use Rattle.cg_driver.proofs.law.only_build_writes.Goals as goal

pub returns : goal.returns
returns c = own_writes
